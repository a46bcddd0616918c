use Rattle.std.proofs.Common.{IsTrue, ◌↔◌, List, ℕ, Result, Ok, Err, is_ok, refl, subst, sym}
use Rattle.std.specs.Prelude.{MatchResult}
use Rattle.conf_doc.specs.declared.configuration.Config.{Config}
use Rattle.conf_check.specs.Validity.{IsFirstViolationAt, IsValidAt}
use Rattle.conf_check.specs.declared.violations.Violation.{Violation}
use Rattle.yang_model.specs.ModelSets.{ModelSet}
use Rattle.plan_check.proofs.validity.is_valid_at.Goals as goal

valid_says : (models : ModelSet) (config : Config) (table key : List ℕ) (r : Result (Unit {0}) Violation)
    → MatchResult r (λ _. IsValidAt models config table key) (IsFirstViolationAt models config table key)
    → IsTrue (is_ok r) ↔ IsValidAt models config table key
valid_says models config table key (Ok u) valid = (λ _. valid, λ _. refl)
valid_says models config table key (Err v) first = (λ t. absurd cc, λ valid. absurd (valid first.breach first.broken))

pub returns : goal.returns
returns c =
    let models = c.args.models.now in
    let config = c.args.config.now in
    subst (λ b. IsTrue b ↔ IsValidAt models config c.args.table.now c.args.key.now) (sym c.is_ok.ensures.value)
    (valid_says models config c.args.table.now c.args.key.now c.check_entry.result c.check_entry.ensures)
