use Rattle.gcu_requests.proofs.OneAnswer.{judges_one}
use Rattle.scope_commands.proofs.OneAnswer.{plans_one}
use Rattle.scope_commands.proofs.laws.plans_of_scopes_are_one.Goals as goal

pub returns : goal.returns
returns c = plans_one (judges_one c.models_are_one.ensures c.readers_exist.ensures) c.searches_have_one_answer.ensures
