use Rattle.conf_check.proofs.EntryPlaces.{shape_there}
use Rattle.conf_check.proofs.rows.shape_at_place.Goals as goal

pub returns : goal.returns
returns c =
    shape_there c.args.config.now c.args.table c.args.key c.part_at-entries.result.now c.part_at-entries.ensures.part c.args.models.now
    c.name_at.result.now c.name_at-2.result.now c.shape_of.result c.name_at.ensures c.name_at-2.ensures c.shape_of.ensures
