use Rattle.std.proofs.Common.{ℕ, Global, Vec, ap, ◌∙◌}
use Rattle.reading_commands.proofs.plan_checking.yes_text.Goals as goal

pub returns : goal.returns
returns c = ap (λ (v : Vec ℕ Global). v.items) c.into_bytes.ensures.value ∙ c.in_ok-line.ensures.ok
