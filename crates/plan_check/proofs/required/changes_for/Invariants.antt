use Rattle.std.proofs.Common.{◌≡◌, ◌<◌, ℕ, Some, slice_get}
use Rattle.move_core.specs.declared.settings.Requiring.{Requiring}
use Rattle.plan_check.specs.Requirements.{Differs}
use Rattle.plan_check.proofs.required.changes_for.Given as goal

abbrev pub invariant-loop-place : goal.invariant-loop-place
invariant-loop-place l =
    (j : ℕ) (q : Requiring) → j < l.place-index → slice_get l.rule.requiring j ≡ Some q → ¬ Differs l.change q
