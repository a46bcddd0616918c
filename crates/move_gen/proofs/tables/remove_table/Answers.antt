use Rattle.std.proofs.Common.{ap, option_map, ◌∙◌}
use Rattle.conf_doc.specs.declared.parts.Part.TheVariants as part
use Rattle.move_gen.specs.Given.{IsRemovedTable}
use Rattle.move_gen.proofs.ListGrowth.{appends_none}
use Rattle.move_gen.proofs.OwnPlaces.{something}
use Rattle.move_gen.proofs.tables.remove_table.Goals as goal

pub returns-then-is_some : goal.returns-then-is_some
returns-then-is_some c =
    appends_none (IsRemovedTable c.args.goal.now c.args.name.now c.args.table.now) c.args.out.now.items
    (λ g is. something part.Table c.table.result c.is_some.result c.is_some.ensures c.if-is_some.true (ap (option_map part.Table) c.table.ensures.table ∙ is.0))
