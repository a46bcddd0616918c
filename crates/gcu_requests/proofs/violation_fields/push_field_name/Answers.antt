use Rattle.std.proofs.Common.{arith}
use Rattle.conf_check.specs.Rows.{row_of}
use Rattle.gcu_requests.proofs.FieldNames.{no_field_name}
use Rattle.gcu_requests.proofs.violation_fields.push_field_name.Goals as goal

pub returns-else-field-len : goal.returns-else-field-len
returns-else-field-len c = λ table key.
    let len = c.len.ensures.len in
    let past = c.if-field-len.false in
    no_field_name c.args.names.now (row_of table key c.args.fields.now) c.args.field (omega (arith, len, past))
