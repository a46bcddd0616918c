use Rattle.move_core.specs.Appends.{Appends}
use Rattle.move_gen.specs.Given.{IsRemovedField}
use Rattle.move_gen.specs.Giving.{IsOfFirst}
use Rattle.move_gen.proofs.fields.remove_fields.Given as goal

abbrev pub invariant-loop-i : goal.invariant-loop-i
invariant-loop-i l = Appends (IsOfFirst (IsRemovedField l.table l.key l.new) l.old l.i) l.fn.out.items l.out.items
