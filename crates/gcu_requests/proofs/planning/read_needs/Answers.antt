use Rattle.std.proofs.Common.{refl}
use Rattle.std.proofs.lemmas.Result.{err_from_is_err_and}
use Rattle.gcu_words.specs.Views.{target_view}
use Rattle.gcu_requests.proofs.PlanFinding.{no_plan_ctx, no_plan_goal, no_plan_start, planning_found}
use Rattle.gcu_requests.proofs.planning.read_needs.Goals as goal

-- there is nothing to judge by
pub returns-in_err-ctx-clause-answer : goal.returns-in_err-ctx-clause-answer
returns-in_err-ctx-clause-answer g c =
    let p = err_from_is_err_and c.from_residual.result c.from_residual.ensures.1 in
    rw (p.1, p.2)
    (no_plan_ctx (g.H.Host.told c.args.host.now) (target_view c.args.target)
    c.args.budget c.in_err-ctx.field-0.0 c.in_err-ctx.ensures.answer)

-- there is no start
pub returns-in_err-stored-clause-answer : goal.returns-in_err-stored-clause-answer
returns-in_err-stored-clause-answer g c =
    let p = err_from_is_err_and c.from_residual-in_err-stored.result c.from_residual-in_err-stored.ensures.1 in
    rw (p.1, p.2)
    (no_plan_start (g.H.Host.told c.args.host.now) (target_view c.args.target)
    c.args.budget c.in_ok-ctx.ctx c.in_err-stored.field-0.0 c.in_ok-ctx.ensures.answer
    (rw c.in_ok-ctx.ensures.reads.state at c.in_err-stored.ensures.answer))

-- there is no goal
pub read_goal-requires-clause-held : goal.read_goal-requires-clause-held
read_goal-requires-clause-held g c =
    rw (c.in_ok-stored.ensures.reads.state, c.in_ok-ctx.ensures.reads.state) c.requires.held

pub returns-in_err-goal-clause-answer : goal.returns-in_err-goal-clause-answer
returns-in_err-goal-clause-answer g c =
    let p = err_from_is_err_and c.from_residual-in_err-goal.result c.from_residual-in_err-goal.ensures.1 in
    rw (p.1, p.2)
    (no_plan_goal (g.H.Host.told c.args.host.now) (target_view c.args.target)
    c.args.budget c.in_ok-ctx.ctx c.in_ok-stored.stored c.in_err-goal.field-0.0 c.in_ok-ctx.ensures.answer
    (rw c.in_ok-ctx.ensures.reads.state at c.in_ok-stored.ensures.answer)
    (rw (c.in_ok-stored.ensures.reads.state, c.in_ok-ctx.ensures.reads.state) at c.in_err-goal.ensures.answer))

-- there is all that a plan needs
pub returns-clause-answer : goal.returns-clause-answer
returns-clause-answer g c =
    planning_found (g.H.Host.told c.args.host.now) (target_view c.args.target) c.args.budget _ refl
    c.in_ok-ctx.ensures.answer
    (rw c.in_ok-ctx.ensures.reads.state at c.in_ok-stored.ensures.answer)
    (rw (c.in_ok-stored.ensures.reads.state, c.in_ok-ctx.ensures.reads.state) at c.in_ok-goal.ensures.answer)
