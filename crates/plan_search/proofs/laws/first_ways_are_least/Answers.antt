use Rattle.plan_search.proofs.OneAnswer.{one_first}
use Rattle.plan_search.proofs.Positions.{ahead_by_positions, first_is_least}
use Rattle.plan_search.proofs.laws.first_ways_are_least.Goals as goal

pub returns-clause-one : goal.returns-clause-one
returns-clause-one c = one_first

pub returns-clause-least : goal.returns-clause-least
returns-clause-least c = λ ctx start goal ms is. first_is_least ctx start goal ms is

pub returns-clause-ahead : goal.returns-clause-ahead
returns-clause-ahead c = λ ctx start goal x is. ahead_by_positions ctx start goal x is
