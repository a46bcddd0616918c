use Rattle.std.proofs.Common.{IsTrue, ◌↔◌, Result, Ok, Err, is_ok, refl, subst, sym}
use Rattle.std.specs.Prelude.{MatchResult}
use Rattle.conf_doc.specs.declared.configuration.Config.{Config}
use Rattle.conf_check.specs.Validity.{IsFirstViolation, IsValid}
use Rattle.conf_check.specs.declared.violations.Violation.{Violation}
use Rattle.yang_model.specs.ModelSets.{ModelSet}
use Rattle.plan_check.proofs.validity.is_valid.Goals as goal

valid_says : (models : ModelSet) (config : Config) (r : Result (Unit {0}) Violation)
    → MatchResult r (λ _. IsValid models config) (IsFirstViolation models config) → IsTrue (is_ok r) ↔ IsValid models
    config
valid_says models config (Ok u) valid = (λ _. valid, λ _. refl)
valid_says models config (Err v) first = (λ t. absurd cc, λ valid. absurd (valid first.breach first.broken))

pub returns : goal.returns
returns c =
    subst (λ b. IsTrue b ↔ IsValid c.args.models.now c.args.config.now) (sym c.is_ok.ensures.value)
    (valid_says c.args.models.now c.args.config.now c.check.result c.check.ensures)
