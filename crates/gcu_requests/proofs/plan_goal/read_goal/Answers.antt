use Rattle.std.proofs.lemmas.Result.{err_from_is_err_and}
use Rattle.gcu_words.specs.Views.{target_view}
use Rattle.gcu_inputs.proofs.Finding.{always_refuses}
use Rattle.gcu_requests.proofs.PlanFinding.{goal_found, no_goal}
use Rattle.gcu_requests.proofs.plan_goal.read_goal.Goals as goal

-- nothing is made of the start
pub returns-in_err-goal-clause-answer : goal.returns-in_err-goal-clause-answer
returns-in_err-goal-clause-answer g c =
    let p = err_from_is_err_and c.from_residual.result c.from_residual.ensures.1 in
    rw (p.1, p.2)
    (no_goal (g.H.Host.told c.args.host.now) (target_view c.args.target)
    c.args.ctx.now c.args.start.now c.in_err-goal.field-0.0 c.in_err-goal.ensures.answer)

-- it is judged
pub returns-clause-answer : goal.returns-clause-answer
returns-clause-answer g c =
    goal_found (g.H.Host.told c.args.host.now) (target_view c.args.target) c.args.ctx.now c.args.start.now
    c.in_ok-goal.goal c.judge_goal.result
    c.in_ok-goal.ensures.answer c.judge_goal.ensures.answer

pub returns-clause-cause : goal.returns-clause-cause
returns-clause-cause g c =
    always_refuses c.judge_goal.result (g.H.Host.counts c.args.host.now) (g.H.Host.counts c.make_goal.new.host)
    c.judge_goal.ensures.cause
