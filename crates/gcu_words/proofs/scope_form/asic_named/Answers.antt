use Rattle.std.proofs.Common.{◌∙◌}
use Rattle.scopes.specs.declared.scope.Scope.TheVariants.{Asic}
use Rattle.gcu_words.proofs.scope_form.asic_named.Goals as goal

-- no scope has that name, and so no ASIC
pub returns-in_err-named : goal.returns-in_err-named
returns-in_err-named c = rw c.from_residual.ensures (λ n less is. c.in_err-named.ensures (Asic n) less (c.as_str.ensures.text ∙ is))
