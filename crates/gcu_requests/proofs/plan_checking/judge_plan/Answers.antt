use Rattle.std.proofs.lemmas.Result.{err_from_is_err_and}
use Rattle.gcu_inputs.specs.IntentAsked.{uninterrupted}
use Rattle.gcu_requests.specs.PlanCheckAsked.{checking_asked}
use Rattle.gcu_requests.specs.Request.{accept_plan}
use Rattle.gcu_requests.proofs.IntentFinding.{gate_closed, gate_open}
use Rattle.gcu_requests.proofs.plan_checking.judge_plan.Goals as goal

-- a change was stopped before its end
pub returns-in_err-test_uninterrupted-clause-answer : goal.returns-in_err-test_uninterrupted-clause-answer
returns-in_err-test_uninterrupted-clause-answer g c =
    let p = err_from_is_err_and c.from_residual.result c.from_residual.ensures.1 in
    rw (p.1, p.2)
    (gate_closed accept_plan (g.H.Host.told c.args.host.now) uninterrupted
    (checking_asked c.args.patch.now c.args.plan.now)
    c.in_err-test_uninterrupted.field-0.0 c.in_err-test_uninterrupted.ensures.answer)

-- none was
pub returns-clause-answer : goal.returns-clause-answer
returns-clause-answer g c =
    gate_open accept_plan (g.H.Host.told c.args.host.now) uninterrupted
    (checking_asked c.args.patch.now c.args.plan.now)
    c.judge_inputs.result c.in_ok-test_uninterrupted.ensures.answer
    (rw c.test_uninterrupted.ensures.reads.state at c.judge_inputs.ensures.answer)
