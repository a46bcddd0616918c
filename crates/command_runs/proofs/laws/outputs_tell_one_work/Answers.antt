use Rattle.command_runs.proofs.Acknowledgements.{has_one_number}
use Rattle.command_runs.proofs.PlanHeads.{plans_are_told}
use Rattle.command_runs.proofs.WorkOutputs.{work_is_one}
use Rattle.command_runs.proofs.laws.outputs_tell_one_work.Goals as goal

pub returns-clause-number : goal.returns-clause-number
returns-clause-number c = has_one_number

pub returns-clause-plans : goal.returns-clause-plans
returns-clause-plans c = plans_are_told c.tokens_of_pointer.ensures.there

pub returns-clause-work : goal.returns-clause-work
returns-clause-work c = work_is_one c.tokens_of_pointer.ensures.there
