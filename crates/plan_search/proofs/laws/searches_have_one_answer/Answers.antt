use Rattle.plan_search.proofs.OneAnswer.{searches_agree}
use Rattle.plan_search.proofs.laws.searches_have_one_answer.Goals as goal

pub returns : goal.returns
returns c = searches_agree
