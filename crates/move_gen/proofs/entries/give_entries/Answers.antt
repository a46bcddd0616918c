use Rattle.std.proofs.Common.{arith}
use Rattle.move_gen.specs.Given.{IsOfTable}
use Rattle.move_gen.proofs.MoveNames.{of_table_told, table_name}
use Rattle.move_gen.proofs.Walks.{letters_at, walk_begins, walk_ends, walk_more, walk_stops}
use Rattle.move_gen.proofs.entries.give_entries.Goals as goal

pub loop-i-init : goal.loop-i-init
loop-i-init g c = walk_begins (IsOfTable (g.M.EntryMoves.is_given c.args.moves.now)) c.args.config.now c.args.out.now.items

pub give_in_table-requires : goal.give_in_table-requires
give_in_table-requires g c = letters_at c.args.config.now c.loop-i.i c.name_at.result.now c.len-i-end.ensures.formed.shaped.named c.name_at.ensures

pub returns-in_err-give_in_table : goal.returns-in_err-give_in_table
returns-in_err-give_in_table g c =
    let Is = g.M.EntryMoves.is_given c.args.moves.now in
    walk_stops (IsOfTable Is) c.args.config.now table_name (of_table_told Is (g.met.M.EntryMoves.for_entries c.args.moves.now)) c.len-i-end.ensures.formed.shaped.rising
    c.from_residual.result c.loop-i.i c.name_at.result.now c.part_at.result.now c.args.out.now.items c.loop-i.out.items c.give_in_table.new.out.items
    c.name_at.ensures c.part_at.ensures.part c.from_residual.ensures.0 c.loop-i.invariant c.in_err-give_in_table.ensures

pub loop-i-preserved : goal.loop-i-preserved
loop-i-preserved g c =
    let Is = g.M.EntryMoves.is_given c.args.moves.now in
    walk_more (IsOfTable Is) c.args.config.now table_name (of_table_told Is (g.met.M.EntryMoves.for_entries c.args.moves.now)) c.len-i-end.ensures.formed.shaped.rising
    c.loop-i.i c.name_at.result.now c.part_at.result.now c.args.out.now.items c.loop-i.out.items c.give_in_table.new.out.items
    c.name_at.ensures c.part_at.ensures.part c.loop-i.invariant c.in_ok-give_in_table.ensures

pub returns : goal.returns
returns g c =
    let end = c.loop-i-test.false in let all = c.len-i-end.ensures.len in
    walk_ends (IsOfTable (g.M.EntryMoves.is_given c.args.moves.now)) c.args.config.now c.len-i-end.ensures.formed.shaped.rising
    c.loop-i.i c.args.out.now.items c.loop-i.out.items (omega (arith, end, all)) c.loop-i.invariant
