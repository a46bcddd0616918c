use Rattle.std.proofs.Common.{ℕ, Global, Vec, ap, ◌∙◌}
use Rattle.gcu_output.specs.Statuses.{status_lines}
use Rattle.gcu_output.proofs.statuses.status_text.Goals as goal

pub returns : goal.returns
returns c =
    ap (λ (v : Vec ℕ Global). v.items) c.into_bytes.ensures.value
    ∙ c.in_ok-lines.ensures
    ∙ ap (λ word. status_lines word c.args.steps) c.intent_word.ensures
