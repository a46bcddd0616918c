use Rattle.gcu_requests.proofs.OneAnswer.{asked_one}
use Rattle.gcu_requests.proofs.OnePlanAnswer.{PlanLaws}
use Rattle.gcu_requests.proofs.laws.asked_has_one_answer.Goals as goal

pub returns : goal.returns
returns c =
    let laws : PlanLaws = record {
      plan = c.plan_texts_are_one.ensures.plan;
      good = c.plan_texts_are_one.ensures.good;
      line_is = c.plan_texts_are_one.ensures.fault;
      accepted = c.plans_are_accepted.ensures;
      fault_is = c.plan_faults_are_one.ensures;
    } in
    asked_one c.models_are_one.ensures c.readers_exist.ensures laws
