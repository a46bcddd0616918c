use Rattle.std.proofs.Common.{◌≤◌, length, subst, arith}
use Rattle.conf_check.specs.Faults.{IsFirstRule, FieldBreaks}
use Rattle.conf_check.proofs.FirstFaults.{fields_more, fields_none}
use Rattle.conf_check.proofs.Places.{pair_at}
use Rattle.conf_check.proofs.faults.first_of_fields.Goals as goal

pub loop-i-preserved : goal.loop-i-preserved
loop-i-preserved c =
    fields_more c.args.models.now c.args.config.now c.args.shape.now c.args.fields.now c.loop-i.i (c.name_at.result.now, c.part_at.result.now)
    (pair_at c.args.fields.now c.loop-i.i c.name_at.result.now c.part_at.result.now c.name_at.ensures c.part_at.ensures.part)
    (subst (λ o. IsFirstRule (FieldBreaks c.args.models.now c.args.config.now c.args.shape.now (c.name_at.result.now, c.part_at.result.now)) o) c.in_default.is c.first_of_field-rule.ensures)
    c.loop-i.invariant

pub returns : goal.returns
returns c =
    let past : length c.args.fields.now ≤ c.loop-i.i = omega (arith, c.len-i-end.ensures.len, c.loop-i-test.false) in
    fields_none c.args.models.now c.args.config.now c.args.shape.now c.args.fields.now c.loop-i.i past c.loop-i.invariant
