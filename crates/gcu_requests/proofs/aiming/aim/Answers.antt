use Rattle.std.proofs.lemmas.Result.{err_from_is_err_and}
use Rattle.patch_core.specs.Operation.{operations}
use Rattle.gcu_requests.proofs.SessionFinding.{aim_found, no_aim}
use Rattle.gcu_requests.proofs.aiming.aim.Goals as goal

pub returns-in_err-goal-clause-answer : goal.returns-in_err-goal-clause-answer
returns-in_err-goal-clause-answer c =
    let p = err_from_is_err_and c.from_residual.result c.from_residual.ensures.1 in
    rw (p.1, p.2)
    (no_aim c.args.ctx.now (operations c.args.patch.now)
    c.args.now.now c.in_err-goal.field-0.0 c.in_err-goal.ensures.answer c.in_err-goal.ensures.cause)

pub returns-clause-answer : goal.returns-clause-answer
returns-clause-answer c =
    aim_found c.args.ctx.now (operations c.args.patch.now) c.args.now.now c.in_ok-goal.goal c.judge_goal.result
    c.in_ok-goal.ensures.answer c.judge_goal.ensures.answer
