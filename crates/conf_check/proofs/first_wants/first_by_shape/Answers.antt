use Rattle.std.proofs.Common.{subst}
use Rattle.conf_check.specs.EntryShapes.{IsShapeAt}
use Rattle.conf_check.proofs.EntryPlaces.{none_unshaped}
use Rattle.conf_check.proofs.first_wants.first_by_shape.Goals as goal

pub first_of_shape-requires : goal.first_of_shape-requires
first_of_shape-requires c = subst (IsShapeAt c.args.models.now c.args.config.now c.args.from.table c.args.from.key) c.in-Some.is c.requires

pub returns-in-None-clause-first : goal.returns-in-None-clause-first
returns-in-None-clause-first c =
    none_unshaped c.args.models.now c.args.config.now c.args.from
    (subst (IsShapeAt c.args.models.now c.args.config.now c.args.from.table c.args.from.key) c.in-None.is c.requires)
