use Rattle.std.proofs.Common.{refl}
use Rattle.std.proofs.lemmas.Result.{err_from_is_err_and}
use Rattle.gcu_requests.proofs.DemoFinding.{generated_found, no_generated_goal}
use Rattle.gcu_requests.proofs.demo_planning.generate.Goals as goal

-- the goal is refused
pub returns-in_err-goal-clause-answer : goal.returns-in_err-goal-clause-answer
returns-in_err-goal-clause-answer c =
    let p = err_from_is_err_and c.from_residual-in_err-goal.result c.from_residual-in_err-goal.ensures.1 in
    rw (p.1, p.2)
    (no_generated_goal c.args.size.seed c.args.size.ports c.args.ctx (c.in_ok-start.start, c.in_ok-start.goal)
    c.in_ok-start.ensures.pair
    c.in_ok-start.start c.in_err-goal.field-0.0 c.in_ok-judge.ensures.answer c.in_err-goal.ensures.answer)

-- a plan may go from the one to the other
pub returns-clause-answer : goal.returns-clause-answer
returns-clause-answer c =
    generated_found c.args.size.seed c.args.size.ports (c.in_ok-start.start, c.in_ok-start.goal) _
    c.in_ok-start.ensures.pair
    refl c.in_ok-judge.ensures.answer c.in_ok-goal.ensures.answer
