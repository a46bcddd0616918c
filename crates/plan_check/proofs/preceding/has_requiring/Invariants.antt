use Rattle.std.proofs.Common.{◌≡◌, ◌<◌, ℕ, Some, slice_get}
use Rattle.std.specs.Option.{option_copied}
use Rattle.move_core.specs.Moves.{place}
use Rattle.move_core.specs.declared.settings.Required.{Required}
use Rattle.plan_check.specs.Nearby.{IsRequiredIn}
use Rattle.plan_check.proofs.preceding.has_requiring.Given as goal

abbrev pub invariant-loop-rule : goal.invariant-loop-rule
invariant-loop-rule l =
    (j : ℕ) (r : Required) → j < l.rule-index → slice_get l.sought.here.now.ctx.now.settings.required j ≡ Some r
    → ¬ IsRequiredIn r (place l.sought.mv.now) l.table (option_copied l.key)
