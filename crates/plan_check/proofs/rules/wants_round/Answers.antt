use Rattle.plan_check.proofs.TouchedWants.{stands_in}
use Rattle.plan_check.proofs.rules.wants_round.Goals as goal

pub returns-then-len-gt1-clause-ahead : goal.returns-then-len-gt1-clause-ahead
returns-then-len-gt1-clause-ahead c = λ n p w names below wanted.
    (c.entry_wants.ensures.ahead p w).1
    (stands_in c.args.config.now c.args.place.now c.name_at.result.now c.name_at-then-len-gt1.result.now c.name_at.ensures.name c.name_at-then-len-gt1.ensures.name n p names below, wanted)

pub returns-else-len-gt1-clause-ahead : goal.returns-else-len-gt1-clause-ahead
returns-else-len-gt1-clause-ahead c = λ n p w names below wanted. c.wants.ensures.ahead p w wanted
