use Rattle.std.proofs.Common.{arith}
use Rattle.move_gen.specs.Given.{IsRemovedField}
use Rattle.move_gen.proofs.MoveNames.{field_name, removed_field_told}
use Rattle.move_gen.proofs.Walks.{letters_at, walk_begins, walk_ends, walk_more, walk_stops}
use Rattle.move_gen.proofs.fields.remove_fields.Goals as goal

pub loop-i-init : goal.loop-i-init
loop-i-init c = walk_begins (IsRemovedField c.args.table.now c.args.key.now c.args.new.now) c.args.old.now c.args.out.now.items

pub remove_field-requires-clause-field : goal.remove_field-requires-clause-field
remove_field-requires-clause-field c = letters_at c.args.old.now c.loop-i.i c.name_at.result.now c.len-i-end.ensures.formed.shaped.named c.name_at.ensures

pub returns-in_err-remove_field : goal.returns-in_err-remove_field
returns-in_err-remove_field c =
    let t = c.args.table.now in let k = c.args.key.now in
    walk_stops (IsRemovedField t k c.args.new.now) c.args.old.now field_name (removed_field_told t k c.args.new.now) c.len-i-end.ensures.formed.shaped.rising
    c.from_residual.result c.loop-i.i c.name_at.result.now c.part_at.result.now c.args.out.now.items c.loop-i.out.items c.remove_field.new.out.items
    c.name_at.ensures c.part_at.ensures.part c.from_residual.ensures.0 c.loop-i.invariant c.in_err-remove_field.ensures

pub loop-i-preserved : goal.loop-i-preserved
loop-i-preserved c =
    let t = c.args.table.now in let k = c.args.key.now in
    walk_more (IsRemovedField t k c.args.new.now) c.args.old.now field_name (removed_field_told t k c.args.new.now) c.len-i-end.ensures.formed.shaped.rising
    c.loop-i.i c.name_at.result.now c.part_at.result.now c.args.out.now.items c.loop-i.out.items c.remove_field.new.out.items
    c.name_at.ensures c.part_at.ensures.part c.loop-i.invariant c.in_ok-remove_field.ensures

pub returns : goal.returns
returns c =
    let end = c.loop-i-test.false in let all = c.len-i-end.ensures.len in
    walk_ends (IsRemovedField c.args.table.now c.args.key.now c.args.new.now) c.args.old.now c.len-i-end.ensures.formed.shaped.rising
    c.loop-i.i c.args.out.now.items c.loop-i.out.items (omega (arith, end, all)) c.loop-i.invariant
