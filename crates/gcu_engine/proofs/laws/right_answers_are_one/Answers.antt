use Rattle.gcu_engine.proofs.RightAnswers.{right_one}
use Rattle.gcu_engine.proofs.laws.right_answers_are_one.Goals as goal

pub returns : goal.returns
returns c = right_one c.asked_has_one_answer.ensures c.plans_of_scopes_are_one.ensures
