-- The change of a plan made ready, or what is refused, or that there is no plan.
use Rattle.std.proofs.Common.{◌≡◌, Err, IfOk, subst}
use Rattle.std.proofs.lemmas.Result.{err_from_is_err_and}
use Rattle.gcu_words.specs.Views.{target_view}
use Rattle.command_answers.proofs.PlanSaying.{refuses_ends, solved_ends}
use Rattle.writing_commands.proofs.Readiness.{made_ready, memory_ends, plan_missed, planning_missed}
use Rattle.writing_commands.proofs.changing.plan_settled.Goals as goal

-- something is refused
pub returns-in_err-planning-clause-prepared : goal.returns-in_err-planning-clause-prepared
returns-in_err-planning-clause-prepared g c =
    let p = err_from_is_err_and c.from_residual.result c.from_residual.ensures.1 in
    rw (p.1, p.2)
    (planning_missed (target_view c.args.target) c.args.budget (g.H.Host.told c.args.host.now)
    c.in_err-planning.field-0.0
    (g.H.Host.counts c.args.host.now) (g.H.Host.counts c.prepare.new.host) c.in_err-planning.ensures.cause
    c.in_err-planning.ensures.answer)

pub returns-in_err-planning-clause-cause : goal.returns-in_err-planning-clause-cause
returns-in_err-planning-clause-cause g c =
    let p = err_from_is_err_and c.from_residual.result c.from_residual.ensures.1 in
    rw (p.1, p.2)
    (refuses_ends (g.H.Host.counts c.args.host.now) (g.H.Host.counts c.prepare.new.host)
    c.in_err-planning.field-0.0 c.in_err-planning.ensures.cause)

-- no plan is found
pub returns-in_err-plan-clause-prepared : goal.returns-in_err-plan-clause-prepared
returns-in_err-plan-clause-prepared g c =
    let p = err_from_is_err_and c.from_residual-in_err-plan.result c.from_residual-in_err-plan.ensures.1 in
    rw (p.1, p.2)
    (plan_missed (target_view c.args.target) c.args.budget (g.H.Host.told c.args.host.now)
    c.in_ok-planning.planning c.in_err-plan.field-0.0 c.in_ok-planning.ensures.answer c.in_err-plan.ensures.answer)

pub returns-in_err-plan-clause-cause : goal.returns-in_err-plan-clause-cause
returns-in_err-plan-clause-cause g c =
    let p = err_from_is_err_and c.from_residual-in_err-plan.result c.from_residual-in_err-plan.ensures.1 in
    rw (p.1, p.2)
    (solved_ends c.in_ok-planning.planning (Err c.in_err-plan.field-0.0) (g.H.Host.counts c.args.host.now)
    (g.H.Host.counts c.prepare.new.host) c.in_err-plan.ensures.answer)

-- it is made ready
pub returns-clause-prepared : goal.returns-clause-prepared
returns-clause-prepared g c =
    made_ready (target_view c.args.target) c.args.budget (g.H.Host.told c.args.host.now) c.in_ok-planning.planning
    c.in_ok-plan.plan c.ready_change.result
    c.in_ok-planning.ensures.answer c.in_ok-plan.ensures.answer c.in_ok-planning.ensures.stands
    c.ready_change.ensures.change c.ready_change.ensures.text c.ready_change.ensures.err
    (subst (λ b. IfOk c.ready_change.result (λ ready. ready.closes ≡ b))
    c.closes_stopped-closes.ensures c.ready_change.ensures.closes)

pub returns-clause-cause : goal.returns-clause-cause
returns-clause-cause g c =
    memory_ends (g.H.Host.counts c.args.host.now) (g.H.Host.counts c.prepare.new.host) c.ready_change.result
    c.ready_change.ensures.err
