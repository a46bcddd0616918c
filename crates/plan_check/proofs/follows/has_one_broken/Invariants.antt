use Rattle.std.proofs.Common.{◌≡◌, ◌<◌, ℕ, Some, slice_get}
use Rattle.conf_check.specs.declared.want_iter.WantAt.{WantAt}
use Rattle.plan_check.specs.Broken.{IsBrokenAt}
use Rattle.plan_check.proofs.follows.has_one_broken.Given as goal

abbrev pub invariant-loop-i : goal.invariant-loop-i
invariant-loop-i l =
    (j : ℕ) (a : WantAt) → j < l.i → slice_get l.wants j ≡ Some a → ¬ IsBrokenAt l.here l.next l.place l.item a
