use Rattle.plan_texts.proofs.OnePlan.{no_fault, one_fault, one_plan}
use Rattle.plan_texts.proofs.laws.plan_texts_are_one.Goals as goal

pub returns-clause-plan : goal.returns-clause-plan
returns-clause-plan c = λ text ms ns. one_plan text c.patch_reads_back.ensures ms ns

pub returns-clause-good : goal.returns-clause-good
returns-clause-good c = λ text ms line. no_fault text c.patch_reads_back.ensures ms line

pub returns-clause-fault : goal.returns-clause-fault
returns-clause-fault c = λ text line other. one_fault text c.patch_reads_back.ensures line other
