use Rattle.plan_search.proofs.RankedMoves.{list_there}
use Rattle.plan_search.proofs.laws.lists_are_there.Goals as goal

pub returns : goal.returns
returns c = λ ctx start cur goal. list_there ctx cur goal start
