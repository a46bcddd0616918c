use Rattle.std.proofs.Common.{option_copied, sym, ap, ◌∙◌}
use Rattle.conf_check.proofs.FirstFaults.{field_first}
use Rattle.conf_check.proofs.faults.first_of_field.Goals as goal

pub returns-in-Some : goal.returns-in-Some
returns-in-Some c =
    field_first c.args.models.now c.args.config.now c.args.shape.now (c.args.name.now, c.args.value.now) c.in-Some.rule.now
    c.first_of_value.result (sym c.rule_of_field.ensures ∙ ap option_copied c.in-Some.is) c.first_of_value.ensures
