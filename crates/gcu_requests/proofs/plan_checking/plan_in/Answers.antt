use Rattle.gcu_requests.proofs.PlanCheckFinding.{few_moves}
use Rattle.gcu_requests.proofs.plan_checking.plan_in.Goals as goal

pub returns-in-Ok-clause-few : goal.returns-in-Ok-clause-few
returns-in-Ok-clause-few c = few_moves c.args.bytes.now c.in-Ok.plan c.requires c.in-Ok.ensures
