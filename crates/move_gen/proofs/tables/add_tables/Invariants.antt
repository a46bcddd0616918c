use Rattle.move_core.specs.Appends.{Appends}
use Rattle.move_gen.specs.Given.{IsAddedTable}
use Rattle.move_gen.specs.Giving.{IsOfFirst}
use Rattle.move_gen.proofs.tables.add_tables.Given as goal

abbrev pub invariant-loop-i : goal.invariant-loop-i
invariant-loop-i l = Appends (IsOfFirst (IsAddedTable l.cur) l.goal l.i) l.fn.out.items l.out.items
