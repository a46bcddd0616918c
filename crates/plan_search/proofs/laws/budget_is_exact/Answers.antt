use Rattle.plan_search.proofs.AnswerCauses.{exact}
use Rattle.plan_search.proofs.laws.budget_is_exact.Goals as goal

pub returns : goal.returns
returns c = exact
