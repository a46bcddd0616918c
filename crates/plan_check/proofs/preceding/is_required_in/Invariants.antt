use Rattle.std.proofs.Common.{◌≡◌, ◌<◌, ℕ, Some, slice_get}
use Rattle.std.specs.Option.{option_copied}
use Rattle.move_core.specs.declared.settings.Requiring.{Requiring}
use Rattle.plan_check.specs.Nearby.{IsRequiringIn}
use Rattle.plan_check.proofs.preceding.is_required_in.Given as goal

abbrev pub invariant-loop-requiring : goal.invariant-loop-requiring
invariant-loop-requiring l =
    (j : ℕ) (q : Requiring) → j < l.requiring-index → slice_get l.rule.requiring j ≡ Some q
    → ¬ IsRequiringIn q l.named l.table (option_copied l.key)
