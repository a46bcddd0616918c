use Rattle.std.proofs.Common.{◌≡◌, take}
use Rattle.move_core.proofs.operations.pointer_to.Given as goal

abbrev pub invariant-loop-i : goal.invariant-loop-i
invariant-loop-i l = l.tokens ≡ take l.i l.path
