use Rattle.std.proofs.Common.{get_or, ℕ, List, take, take_all, sym, subst, Bor}
use Rattle.yang_scope.specs.Pieces.{texts}
use Rattle.yang_faults.specs.NameSets.{IsSetOf}
use Rattle.yang_faults.proofs.Steps.{map-one_more, get_or-self, no_text}
use Rattle.yang_faults.proofs.fields.set_of.Goals as goal

pub loop-name-preserved : goal.loop-name-preserved
loop-name-preserved c =
    let ns = c.args.names.now in
    let i = c.loop-name.name-index in
    let now : Bor (List ℕ) → List ℕ = λ x. x.now in
    let P : List (List ℕ) → Type 0 = λ ms. IsSetOf c.add.new.self.names ms in
    subst P (sym (map-one_more ns i (get_or ns i no_text) c.loop-name-test.true (get_or-self ns i no_text c.loop-name-test.true) now))
    (c.in_ok-add.ensures.last (texts (take i ns)) c.loop-name.invariant)

pub returns : goal.returns
returns c =
    let P : List (Bor (List ℕ)) → Type 0 = λ ns. IsSetOf c.loop-name.set.names (texts ns) in
    subst P (take_all c.loop-name.name-index c.args.names.now c.loop-name-test.false) c.loop-name.invariant
