use Rattle.std.proofs.lemmas.Result.{on_ok_weaker}
use Rattle.conf_check.specs.Rows.{row_of}
use Rattle.gcu_requests.specs.Places.{field_name, rule_name}
use Rattle.gcu_requests.proofs.FieldNames.{is_field, is_missing, is_of_none}
use Rattle.gcu_requests.proofs.violation_fields.push_field.Goals as goal

pub returns-in-UnknownField : goal.returns-in-UnknownField
returns-in-UnknownField c =
    let row = row_of c.args.table.now c.args.key.now c.args.fields.now in
    on_ok_weaker c.push_field_name.result
    (λ h. (
      field_name row c.args.field,
      h,
      is_field c.args.models.now row
          c.args.rule c.args.field c.in-UnknownField.is,
    ))
    (c.push_field_name.ensures c.args.table.now c.args.key.now)

pub returns-in-Some : goal.returns-in-Some
returns-in-Some c =
    let row = row_of c.args.table.now c.args.key.now c.args.fields.now in
    on_ok_weaker c.push_rule_name.result
    (λ h. (
      rule_name c.in-Some.shape.now c.args.field,
      h,
      is_missing c.args.models.now row c.args.rule c.args.field c.in-Some.shape.now c.in-MissingField.is
          c.in-Some.ensures,
    ))
    c.push_rule_name.ensures

pub returns-in-None : goal.returns-in-None
returns-in-None c =
    is_of_none c.args.models.now (row_of c.args.table.now c.args.key.now c.args.fields.now) c.args.rule c.args.field
    c.args.names.now c.in-MissingField.is c.in-None.ensures
