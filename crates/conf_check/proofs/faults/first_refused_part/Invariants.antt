use Rattle.std.proofs.Common.{◌<◌, ℕ}
use Rattle.conf_check.specs.Faults.{IsRefusedPart}
use Rattle.conf_check.proofs.faults.first_refused_part.Given as goal

abbrev pub invariant-loop-i : goal.invariant-loop-i
invariant-loop-i l = (j : ℕ) → j < l.i → ¬ IsRefusedPart l.models l.config l.shape l.key j
