use Rattle.std.proofs.Common.{ℕ, List, ◌++◌, ap, ◌∙◌}
use Rattle.std.specs.List.{flat_map}
use Rattle.yang_scope.specs.Faults.{least_of}
use Rattle.yang_faults.specs.Keys.{wrong_number, named_twice, unknown_leaf, key_faults}
use Rattle.yang_scope.specs.Pieces.{texts}
use Rattle.yang_faults.proofs.FaultLists.{least_of-two}
use Rattle.yang_faults.proofs.keys.note_key.Goals as goal

pub returns : goal.returns
returns c = λ known set.
    let f = c.args.file in
    let l = c.args.line in
    let ns = texts c.as_slice-names.result.now in
    least_of-two c.args.least.now c.note_number.new.least c.note_unknown.new.least (wrong_number f l ns) (named_twice f l ns ++ flat_map (unknown_leaf f l known) ns)
    c.note_number.ensures
    (least_of-two c.note_number.new.least c.note_named_twice.new.least c.note_unknown.new.least (named_twice f l ns) (flat_map (unknown_leaf f l known) ns)
    c.in_ok-note_named_twice.ensures
    (c.note_unknown.ensures known set))
    ∙ ap (λ (ms : List (List ℕ)). least_of c.args.least.now (key_faults f l known ms)) (ap texts c.as_slice-names.ensures.value ∙ c.in_ok-found.ensures)
