use Rattle.move_core.specs.Appends.{Appends}
use Rattle.move_gen.specs.Giving.{IsOfFirst}
use Rattle.move_gen.specs.ItemsGiven.{IsItemOfField}
use Rattle.move_gen.proofs.items.give_of_fields.Given as goal

abbrev pub invariant-loop-i : goal.invariant-loop-i
invariant-loop-i l = Appends (IsOfFirst (IsItemOfField l.table l.key l.old) l.new l.i) l.fn.out.items l.out.items
