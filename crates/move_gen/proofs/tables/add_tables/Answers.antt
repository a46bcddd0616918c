use Rattle.std.proofs.Common.{arith}
use Rattle.move_gen.specs.Given.{IsAddedTable}
use Rattle.move_gen.proofs.MoveNames.{added_table_told, table_name}
use Rattle.move_gen.proofs.Walks.{letters_at, walk_begins, walk_ends, walk_more, walk_stops}
use Rattle.move_gen.proofs.tables.add_tables.Goals as goal

pub add_table-requires : goal.add_table-requires
add_table-requires c = letters_at c.args.goal.now c.loop-i.i c.name_at.result.now c.len-i-end.ensures.formed.shaped.named c.name_at.ensures

pub loop-i-init : goal.loop-i-init
loop-i-init c = walk_begins (IsAddedTable c.args.cur.now) c.args.goal.now c.args.out.now.items

pub returns-in_err-add_table : goal.returns-in_err-add_table
returns-in_err-add_table c =
    walk_stops (IsAddedTable c.args.cur.now) c.args.goal.now table_name (added_table_told c.args.cur.now) c.len-i-end.ensures.formed.shaped.rising
    c.from_residual.result c.loop-i.i c.name_at.result.now c.part_at.result.now c.args.out.now.items c.loop-i.out.items c.add_table.new.out.items
    c.name_at.ensures c.part_at.ensures.part c.from_residual.ensures.0 c.loop-i.invariant c.in_err-add_table.ensures

pub loop-i-preserved : goal.loop-i-preserved
loop-i-preserved c =
    walk_more (IsAddedTable c.args.cur.now) c.args.goal.now table_name (added_table_told c.args.cur.now) c.len-i-end.ensures.formed.shaped.rising
    c.loop-i.i c.name_at.result.now c.part_at.result.now c.args.out.now.items c.loop-i.out.items c.add_table.new.out.items
    c.name_at.ensures c.part_at.ensures.part c.loop-i.invariant c.in_ok-add_table.ensures

pub returns : goal.returns
returns c =
    let end = c.loop-i-test.false in let all = c.len-i-end.ensures.len in
    walk_ends (IsAddedTable c.args.cur.now) c.args.goal.now c.len-i-end.ensures.formed.shaped.rising
    c.loop-i.i c.args.out.now.items c.loop-i.out.items (omega (arith, end, all)) c.loop-i.invariant
