use Rattle.conf_check.specs.Belongings.{AreBelongings-once}
use Rattle.conf_check.proofs.ShapeDecisions.{belongings_told}
use Rattle.conf_check.proofs.belongings.belongings_are_one.Goals as goal

pub returns-clause-there : goal.returns-clause-there
returns-clause-there c =
    let decided = c.texts_are_decided.ensures in
    belongings_told (λ t. (decided t).test) (λ t. (decided t).tells) c.args.models.now c.args.config.now

pub returns-clause-once : goal.returns-clause-once
returns-clause-once c = AreBelongings-once c.args.models.now c.args.config.now
