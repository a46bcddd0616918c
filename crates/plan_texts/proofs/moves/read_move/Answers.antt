use Rattle.std.proofs.Common.{option_map, subst, ◌∙◌}
use Rattle.patch_core.specs.Operation.{operation_of}
use Rattle.plan_texts.specs.Elements.{Reads}
use Rattle.plan_texts.specs.Moves.{IsMoveOf}
use Rattle.plan_texts.proofs.MoveTexts.{no_move, no_operation, other_move}
use Rattle.plan_texts.proofs.moves.read_move.Goals as goal

pub returns-in_default : goal.returns-in_default
returns-in_default c =
    let text = c.args.text.now in
    no_operation text (subst (λ o. Reads text (option_map operation_of o)) c.in_default.is c.in_ok-op.ensures)

pub returns-in_default-2 : goal.returns-in_default-2
returns-in_default-2 c =
    let text = c.args.text.now in
    let o = operation_of c.in-Some.op in
    let reads = subst (λ o. Reads text (option_map operation_of o)) c.in-Some.is c.in_ok-op.ensures in
    no_move text o reads (subst (IsMoveOf o) c.in_default-2.is c.in_ok-mv.ensures)

pub returns-else-is_same : goal.returns-else-is_same
returns-else-is_same c =
    let text = c.args.text.now in
    let o = operation_of c.in-Some.op in
    let reads = subst (λ o. Reads text (option_map operation_of o)) c.in-Some.is c.in_ok-op.ensures in
    let of = subst (IsMoveOf o) c.in-Some-2.is c.in_ok-mv.ensures in
    other_move text o reads c.in-Some-2.mv of c.in_ok-written.written.items c.in_ok-written.ensures
    (λ e. let yes = c.is_same.ensures.1 (c.deref.ensures.value ∙ e) in absurd cc)
