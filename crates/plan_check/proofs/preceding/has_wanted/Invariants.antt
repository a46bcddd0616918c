use Rattle.std.proofs.Common.{◌≡◌, ◌<◌, ℕ, Some, slice_get}
use Rattle.std.specs.Option.{option_copied}
use Rattle.conf_check.specs.declared.want_iter.WantAt.{WantAt}
use Rattle.plan_check.specs.Nearby.{IsWantedFor}
use Rattle.plan_check.proofs.preceding.has_wanted.Given as goal

abbrev pub invariant-loop-i : goal.invariant-loop-i
invariant-loop-i l =
    (j : ℕ) (a : WantAt) → j < l.i → slice_get l.sought.wants.now j ≡ Some a
    → ¬ IsWantedFor l.sought a l.table (option_copied l.key)
