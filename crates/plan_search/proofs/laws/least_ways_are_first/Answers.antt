use Rattle.plan_search.proofs.Positions.{ahead_by_chains, least_is_first}
use Rattle.plan_search.proofs.laws.least_ways_are_first.Goals as goal

pub returns-clause-first : goal.returns-clause-first
returns-clause-first c = λ ctx start goal ms is. least_is_first ctx start goal ms is

pub returns-clause-ahead : goal.returns-clause-ahead
returns-clause-ahead c = λ ctx start goal x is. ahead_by_chains ctx start goal x is
