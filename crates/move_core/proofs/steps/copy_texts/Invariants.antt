use Rattle.std.proofs.Common.{◌≡◌, take}
use Rattle.move_core.proofs.steps.copy_texts.Given as goal

abbrev pub invariant-loop-i : goal.invariant-loop-i
invariant-loop-i l = l.copies.items ≡ take l.i l.texts
