use Rattle.std.proofs.Common.{◌≡◌, ◌<◌, ℕ, Some, slice_get}
use Rattle.move_core.specs.declared.settings.Required.{Required}
use Rattle.plan_check.specs.Requirements.{IsRequiredBy}
use Rattle.plan_check.proofs.required.is_required.Given as goal

abbrev pub invariant-loop-rule : goal.invariant-loop-rule
invariant-loop-rule l =
    (j : ℕ) (r : Required) → j < l.rule-index → slice_get l.here.ctx.now.settings.required j ≡ Some r → ¬ IsRequiredBy l.here l.next r l.more
