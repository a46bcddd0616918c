use Rattle.move_gen.proofs.SameEntries.{none_for_both, none_for_same}
use Rattle.move_gen.proofs.entries.count_settled.Goals as goal

pub returns-then-is_of_missing-clause-none : goal.returns-then-is_of_missing-clause-none
returns-then-is_of_missing-clause-none g c =
    let ensures = c.count_same_keys.ensures in
    none_for_both (g.M.EntryMoves.is_given c.args.moves.now) (g.M.EntryMoves.other c.args.moves.now) c.args.name.now c.args.table.now c.args.other.now
    c.args.i c.args.near c.count_same_keys.result c.requires.there ensures.other_formed.shaped.rising (c.is_of_missing.ensures c.if-is_of_missing.true) ensures.run

pub returns-else-is_of_missing-clause-none : goal.returns-else-is_of_missing-clause-none
returns-else-is_of_missing-clause-none g c =
    let ensures = c.count_same.ensures in
    none_for_same (g.M.EntryMoves.is_given c.args.moves.now) (g.M.EntryMoves.other c.args.moves.now) c.args.name.now c.args.table.now c.args.other.now
    c.args.i c.args.near c.count_same.result c.requires.there ensures.other_formed.shaped.rising (g.met.M.EntryMoves.for_differing c.args.moves.now) ensures.run
