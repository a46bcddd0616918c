use Rattle.move_core.specs.Appends.{Appends}
use Rattle.move_gen.specs.Given.{IsSetField}
use Rattle.move_gen.specs.Giving.{IsOfFirst}
use Rattle.move_gen.proofs.fields.set_fields.Given as goal

abbrev pub invariant-loop-i : goal.invariant-loop-i
invariant-loop-i l = Appends (IsOfFirst (IsSetField l.table l.key l.old) l.new l.i) l.fn.out.items l.out.items
