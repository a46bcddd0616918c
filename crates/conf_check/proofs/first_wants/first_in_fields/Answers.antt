use Rattle.std.proofs.Common.{◌≤◌, length, arith}
use Rattle.conf_check.proofs.Places.{pair_at}
use Rattle.conf_check.proofs.WantSlots.{fields_here, fields_more, fields_end, begin_next}
use Rattle.conf_check.proofs.first_wants.first_in_fields.Goals as goal

pub returns-in-Some-clause-first : goal.returns-in-Some-clause-first
returns-in-Some-clause-first c =
    fields_here c.args.models.now c.args.config.now c.args.shape.now c.args.fields.now c.args.from c.args.item
    c.loop-field.field c.loop-field.first (c.name_at-name.result.now, c.part_at.result.now) c.name_at-name.result c.in-Some.found
    (pair_at c.args.fields.now c.loop-field.field c.name_at-name.result.now c.part_at.result.now c.name_at-name.ensures c.part_at.ensures.part)
    c.loop-field.invariant.none c.loop-field.invariant.begins c.in-Some.ensures.first

pub loop-field-preserved : goal.loop-field-preserved
loop-field-preserved c =
    let ge : c.args.from ≤ c.loop-field.field = omega arith in record {
      none = fields_more c.args.models.now c.args.config.now c.args.shape.now c.args.fields.now c.args.from c.args.item
          c.loop-field.field c.loop-field.first (c.name_at-name.result.now, c.part_at.result.now)
          (pair_at c.args.fields.now c.loop-field.field c.name_at-name.result.now c.part_at.result.now c.name_at-name.ensures c.part_at.ensures.part)
          c.loop-field.invariant.none c.loop-field.invariant.begins c.in_default.ensures.first;
      begins = begin_next c.args.models.now c.args.config.now c.args.shape.now c.args.fields.now c.args.from c.args.item c.loop-field.field ge;
    }

pub returns-clause-first : goal.returns-clause-first
returns-clause-first c =
    let past : length c.args.fields.now ≤ c.loop-field.field = omega (arith, c.len-field-end.ensures.len, c.loop-field-test.false) in
    fields_end c.args.models.now c.args.config.now c.args.shape.now c.args.fields.now c.args.from c.args.item c.loop-field.field past c.loop-field.invariant.none
