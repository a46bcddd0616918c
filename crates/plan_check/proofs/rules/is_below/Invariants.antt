use Rattle.std.proofs.Common.{◌≡◌, ◌<◌, ℕ, slice_get}
use Rattle.plan_check.specs.Touching.{names_at}
use Rattle.plan_check.proofs.rules.is_below.Given as goal

abbrev pub invariant-loop-i : goal.invariant-loop-i
invariant-loop-i l = (j : ℕ) → j < l.i → slice_get (names_at l.at) j ≡ slice_get l.place j
