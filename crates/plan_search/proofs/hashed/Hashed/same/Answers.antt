use Rattle.std.proofs.Common.{sym, ◌∙◌}
use Rattle.plan_search.proofs.hashed.Hashed.same.Goals as goal

pub returns : goal.returns
returns c = (
  λ h. sym c.self.view_is ∙ c.same.ensures.0 h ∙ c.other.view_is,
  λ e. c.same.ensures.1 (c.self.view_is ∙ e ∙ sym c.other.view_is),
)
