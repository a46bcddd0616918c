use Rattle.std.proofs.Common.{Some, None, refl}
use Rattle.conf_check.specs.Rows.{row_of}
use Rattle.conf_check.proofs.Places.{pair_at}
use Rattle.conf_check.proofs.WantPlaces.{at_shape, first_text, no_text}
use Rattle.conf_check.proofs.first_wants.first_of_shape.Goals as goal

pub returns-in-Some-clause-first : goal.returns-in-Some-clause-first
returns-in-Some-clause-first c =
    let at = pair_at c.args.config.now c.args.from.table c.name_at-name.result.now c.part_at-table.result.now c.name_at-name.ensures c.part_at-table.ensures.part in
    let at_key = pair_at c.part_at-table.result.now c.args.from.key c.name_at-key.result.now c.part_at-fields.result.now c.name_at-key.ensures c.part_at-fields.ensures.part in
    let has = c.requires c.name_at-name.result.now c.name_at-key.result.now (record { entries = c.part_at-table.result.now; at = at; fields = c.part_at-fields.result.now; at_key = at_key }) in
    first_text c.args.models.now c.args.config.now c.args.from
    (c.name_at-name.result.now, c.part_at-table.result.now) (c.name_at-key.result.now, c.part_at-fields.result.now) at at_key
    c.in-Some.found
    (record {
      table = c.name_at-name.result;
      key = c.name_at-key.result;
      field = c.in-Some.found.name;
      item = c.in-Some.found.item;
      want = c.in-Some.found.want;
    })
    refl
    (at_shape c.args.models.now c.args.config.now (row_of c.name_at-name.result.now c.name_at-key.result.now c.part_at-fields.result.now)
    c.args.shape.now c.args.from.field c.args.from.item (Some c.in-Some.found) has (c.in-Some.ensures.first c.name_at-name.result.now))

pub returns-in-Some-clause-named : goal.returns-in-Some-clause-named
returns-in-Some-clause-named c = record {
  entry = record {
    entries = c.part_at-table.result.now;
    at = pair_at c.args.config.now c.args.from.table c.name_at-name.result.now c.part_at-table.result.now c.name_at-name.ensures c.part_at-table.ensures.part;
    fields = c.part_at-fields.result.now;
    at_key = pair_at c.part_at-table.result.now c.args.from.key c.name_at-key.result.now c.part_at-fields.result.now c.name_at-key.ensures c.part_at-fields.ensures.part;
  };
  field = c.in-Some.ensures.named;
  item = refl;
}

pub returns-in-None-clause-first : goal.returns-in-None-clause-first
returns-in-None-clause-first c =
    let at = pair_at c.args.config.now c.args.from.table c.name_at-name.result.now c.part_at-table.result.now c.name_at-name.ensures c.part_at-table.ensures.part in
    let at_key = pair_at c.part_at-table.result.now c.args.from.key c.name_at-key.result.now c.part_at-fields.result.now c.name_at-key.ensures c.part_at-fields.ensures.part in
    let has = c.requires c.name_at-name.result.now c.name_at-key.result.now (record { entries = c.part_at-table.result.now; at = at; fields = c.part_at-fields.result.now; at_key = at_key }) in
    no_text c.args.models.now c.args.config.now c.args.from
    (c.name_at-name.result.now, c.part_at-table.result.now) (c.name_at-key.result.now, c.part_at-fields.result.now) at at_key
    (at_shape c.args.models.now c.args.config.now (row_of c.name_at-name.result.now c.name_at-key.result.now c.part_at-fields.result.now)
    c.args.shape.now c.args.from.field c.args.from.item None has (c.in-None.ensures.first c.name_at-name.result.now))
