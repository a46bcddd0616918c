use Rattle.std.proofs.Common.{get_or, ℕ, List, take_all, ap, ◌∙◌, refl, Bor}
use Rattle.std.specs.List.{flat_map}
use Rattle.yang_scope.specs.Faults.{least_of}
use Rattle.yang_faults.specs.Keys.{unknown_leaf}
use Rattle.yang_scope.specs.Pieces.{texts}
use Rattle.yang_faults.proofs.FaultLists.{least-more}
use Rattle.yang_faults.proofs.Steps.{get_or-self, no_text}
use Rattle.yang_faults.proofs.keys.note_unknown.Goals as goal

pub loop-name-init : goal.loop-name-init
loop-name-init c = λ known set. refl

pub loop-name-preserved : goal.loop-name-preserved
loop-name-preserved c = λ known set.
    let ns = c.args.names.now in
    let i = c.loop-name.name-index in
    let now : Bor (List ℕ) → List ℕ = λ x. x.now in
    least-more now (unknown_leaf c.args.file c.args.line known) ns i (get_or ns i no_text) c.loop-name-test.true (get_or-self ns i no_text c.loop-name-test.true)
    c.args.least.now c.loop-name.least c.note_unknown_leaf.new.least (c.loop-name.invariant known set) (c.note_unknown_leaf.ensures known set)

pub returns : goal.returns
returns c = λ known set.
    c.loop-name.invariant known set
    ∙ ap (λ (ns : List (Bor (List ℕ))). least_of c.args.least.now (flat_map (unknown_leaf c.args.file c.args.line known) (texts ns))) (take_all c.loop-name.name-index c.args.names.now c.loop-name-test.false)
