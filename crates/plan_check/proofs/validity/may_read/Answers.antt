use Rattle.std.proofs.Common.{arith}
use Rattle.yang_model.specs.ModelSets.{shapes_of}
use Rattle.plan_check.specs.OneEntry.{HasReader}
use Rattle.plan_check.proofs.Loops.{none_more, not_so}
use Rattle.plan_check.proofs.OneEntry.{shape_at, unread_by}
use Rattle.plan_check.proofs.validity.may_read.Goals as goal

pub loop-place-init : goal.loop-place-init
loop-place-init c = λ i shape lt at. absurd (omega (arith, lt))

pub loop-place-preserved : goal.loop-place-preserved
loop-place-preserved c =
    let models = c.args.models.now in
    let name = c.args.name.now in
    let table = c.args.table.now in
    let shape = c.in-Some.shape.now in
    let n = c.loop-place.place in
    none_more (HasReader table) (shapes_of name models) n shape (shape_at models table name n shape c.in-Some.ensures)
    (not_so c.has_reader.result c.has_reader.ensures.1 c.if-has_reader.false) c.loop-place.invariant

pub returns-in_default : goal.returns-in_default
returns-in_default c =
    unread_by c.args.models.now c.args.table.now c.args.name.now c.loop-place.place c.loop-place.invariant
    c.in_default.ensures
