use Rattle.std.proofs.Common.{true, Some, sym, ap, ◌∙◌}
use Rattle.yang_types.specs.DataTypes.{data_type}
use Rattle.conf_check.specs.Rows.{texts_by_kind}
use Rattle.conf_check.proofs.FirstFaults.{value_first}
use Rattle.conf_check.proofs.faults.first_of_value.Goals as goal

pub returns-in-List : goal.returns-in-List
returns-in-List c =
    value_first c.args.models.now c.args.config.now (data_type c.args.rule.now.ty) c.args.rule.now.list c.args.value.now
    c.items.result.now c.first_of_items.result
    (ap (λ b. texts_by_kind b c.args.value.now) c.if-rule-2.true ∙ ap (texts_by_kind true) c.in-List.is ∙ ap Some (sym c.items.ensures))
    c.first_of_items.ensures
