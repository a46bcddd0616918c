use Rattle.conf_check.proofs.KeptShapes.{kept_told}
use Rattle.conf_check.proofs.RemainingWants.{first_of_all, first_of_one}
use Rattle.conf_check.proofs.want_iter.WantIter.first_ahead.Goals as goal

pub first_by_shape-requires : goal.first_by_shape-requires
first_by_shape-requires c =
    let decided = c.texts_are_decided.ensures in
    kept_told (λ t. (decided t).test) (λ t. (decided t).tells) c.args.self.now.models.now c.args.self.now.config.now
    c.args.self.now.from.table c.args.self.now.from.key c.args.self.now.shape (c.args.self.now.shaped c.if-self.true)

pub returns-then-self-clause-first : goal.returns-then-self-clause-first
returns-then-self-clause-first c = first_of_one c.args.self.now c.first_by_shape.result c.if-self.true c.first_by_shape.ensures.first

pub returns-else-self-clause-first : goal.returns-else-self-clause-first
returns-else-self-clause-first c = first_of_all c.args.self.now c.first_want.result c.if-self.false c.first_want.ensures.first
