use Rattle.std.proofs.Common.{◌-◌, length}
use Rattle.move_core.specs.Appends.{Appends}
use Rattle.move_gen.specs.Giving.{IsOfFirst}
use Rattle.move_gen.proofs.entries.give_in_table.Given as goal

abbrev pub invariant-loop-i : goal.invariant-loop-i
invariant-loop-i g l = Appends (IsOfFirst (g.M.EntryMoves.is_given l.moves l.name) l.table l.i) l.fn.out.items l.out.items

abbrev pub decreases-loop-i : goal.decreases-loop-i
decreases-loop-i g l = length l.table - l.i
