-- A plan for a target, or what is refused, or that there is none.
use Rattle.std.proofs.lemmas.Result.{err_from_is_err_and}
use Rattle.gcu_words.specs.Views.{target_view}
use Rattle.std.proofs.Common.{Ok, Err}
use Rattle.gcu_words.specs.Tasks.{reach}
use Rattle.gcu_requests.specs.WorkAsked.{dry_run_asked}
use Rattle.gcu_inputs.proofs.Finding.{always_refuses}
use Rattle.command_answers.proofs.PlanSaying.{named_found, no_named, plan_refused, plan_says, refuses_ends, solved_ends}
use Rattle.command_answers.proofs.solving.solve.Goals as goal

-- a name is refused
pub returns-in_err-test_target-clause-says : goal.returns-in_err-test_target-clause-says
returns-in_err-test_target-clause-says g c =
    let p = err_from_is_err_and c.from_residual.result c.from_residual.ensures.1 in
    rw (p.1, p.2)
    (plan_refused (g.H.Host.told c.args.host.now) (dry_run_asked (reach (target_view c.args.target)) c.args.budget)
    c.in_err-test_target.field-0.0
    (g.H.Host.counts c.args.host.now) (g.H.Host.counts c.args.host.now)
    (always_refuses {X = Unit {0}} (Err c.in_err-test_target.field-0.0) (g.H.Host.counts c.args.host.now)
    (g.H.Host.counts c.args.host.now) c.in_err-test_target.ensures.cause)
    (no_named (g.H.Host.told c.args.host.now) (target_view c.args.target)
    c.args.budget c.in_err-test_target.field-0.0 c.in_err-test_target.ensures.answer
    c.in_err-test_target.ensures.cause))

pub returns-in_err-test_target-clause-cause : goal.returns-in_err-test_target-clause-cause
returns-in_err-test_target-clause-cause g c =
    let p = err_from_is_err_and c.from_residual.result c.from_residual.ensures.1 in
    rw (p.1, p.2)
    (refuses_ends (g.H.Host.counts c.args.host.now) (g.H.Host.counts c.args.host.now) c.in_err-test_target.field-0.0
    (always_refuses {X = Unit {0}} (Err c.in_err-test_target.field-0.0) (g.H.Host.counts c.args.host.now)
    (g.H.Host.counts c.args.host.now) c.in_err-test_target.ensures.cause))

-- something is refused
pub returns-in_err-planning-clause-says : goal.returns-in_err-planning-clause-says
returns-in_err-planning-clause-says g c =
    let p = err_from_is_err_and c.from_residual-in_err-planning.result c.from_residual-in_err-planning.ensures.1 in
    rw (p.1, p.2)
    (plan_refused (g.H.Host.told c.args.host.now) (dry_run_asked (reach (target_view c.args.target)) c.args.budget)
    c.in_err-planning.field-0.0
    (g.H.Host.counts c.args.host.now) (g.H.Host.counts c.prepare.new.host) c.in_err-planning.ensures.cause
    (named_found (g.H.Host.told c.args.host.now) (target_view c.args.target) c.args.budget tt
    (Err c.in_err-planning.field-0.0) c.in_ok-test_target.ensures.answer c.in_err-planning.ensures.answer))

pub returns-in_err-planning-clause-cause : goal.returns-in_err-planning-clause-cause
returns-in_err-planning-clause-cause g c =
    let p = err_from_is_err_and c.from_residual-in_err-planning.result c.from_residual-in_err-planning.ensures.1 in
    rw (p.1, p.2)
    (refuses_ends (g.H.Host.counts c.args.host.now) (g.H.Host.counts c.prepare.new.host)
    c.in_err-planning.field-0.0 c.in_err-planning.ensures.cause)

-- a plan is searched for
pub returns-clause-says : goal.returns-clause-says
returns-clause-says g c =
    plan_says (g.H.Host.told c.args.host.now) (dry_run_asked (reach (target_view c.args.target)) c.args.budget)
    c.in_ok-planning.planning c.find_plan.result
    (named_found (g.H.Host.told c.args.host.now) (target_view c.args.target) c.args.budget tt
    (Ok c.in_ok-planning.planning) c.in_ok-test_target.ensures.answer c.in_ok-planning.ensures.answer)
    c.find_plan.ensures.answer

pub returns-clause-cause : goal.returns-clause-cause
returns-clause-cause g c =
    solved_ends c.in_ok-planning.planning c.find_plan.result (g.H.Host.counts c.args.host.now)
    (g.H.Host.counts c.prepare.new.host) c.find_plan.ensures.answer
