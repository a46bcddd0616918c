use Rattle.std.proofs.Common.{◌<◌, ℕ}
use Rattle.conf_check.specs.Faults.{IsMissingAt}
use Rattle.conf_check.proofs.faults.first_missing.Given as goal

abbrev pub invariant-loop-i : goal.invariant-loop-i
invariant-loop-i l = (j : ℕ) → j < l.i → ¬ IsMissingAt l.shape l.fields j
