use Rattle.std.proofs.lemmas.Result.{err_from_is_err_and}
use Rattle.std.proofs.Common.{Ok, Err}
use Rattle.gcu_requests.proofs.PlanFinding.{goal_elsewhere, goal_empty, goal_judged}
use Rattle.gcu_requests.proofs.plan_goal.judge_goal.Goals as goal

-- a table without a model differs
pub returns-in_err-test_elsewhere-clause-answer : goal.returns-in_err-test_elsewhere-clause-answer
returns-in_err-test_elsewhere-clause-answer c =
    let p = err_from_is_err_and c.from_residual.result c.from_residual.ensures.1 in
    rw (p.1, p.2)
    (goal_elsewhere c.args.ctx.now c.args.start.now c.args.goal c.in_err-test_elsewhere.field-0.0
    c.in_err-test_elsewhere.ensures.answer c.in_err-test_elsewhere.ensures.cause)

-- a table with a model has no keys
pub returns-in_err-test_keys-clause-answer : goal.returns-in_err-test_keys-clause-answer
returns-in_err-test_keys-clause-answer c =
    let p = err_from_is_err_and c.from_residual-in_err-test_keys.result c.from_residual-in_err-test_keys.ensures.1 in
    rw (p.1, p.2)
    (goal_empty c.args.ctx.now c.args.start.now c.args.goal tt c.in_err-test_keys.field-0.0
    c.in_ok-test_elsewhere.ensures.answer c.in_err-test_keys.ensures.answer c.in_err-test_keys.ensures.cause)

-- the goal isn't valid
pub returns-in_err-judge-clause-answer : goal.returns-in_err-judge-clause-answer
returns-in_err-judge-clause-answer c =
    let p = err_from_is_err_and c.from_residual-in_err-judge.result c.from_residual-in_err-judge.ensures.1 in
    rw (p.1, p.2)
    (goal_judged c.args.ctx.now c.args.start.now c.args.goal tt tt (Err c.in_err-judge.field-0.0)
    c.in_ok-test_elsewhere.ensures.answer c.in_ok-test_keys.ensures.answer c.in_err-judge.ensures.answer
    c.in_err-judge.ensures.cause)

-- it is
pub returns-clause-answer : goal.returns-clause-answer
returns-clause-answer c =
    goal_judged c.args.ctx.now c.args.start.now c.args.goal tt tt (Ok c.args.goal)
    c.in_ok-test_elsewhere.ensures.answer c.in_ok-test_keys.ensures.answer c.in_ok-judge.ensures.answer tt
