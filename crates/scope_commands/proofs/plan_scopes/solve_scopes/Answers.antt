use Rattle.std.proofs.lemmas.Result.{err_from_is_err_and}
use Rattle.gcu_inputs.proofs.Finding.{always_refuses}
use Rattle.scope_commands.proofs.ScopesSolving.{none_solved, solved_in}
use Rattle.scope_commands.proofs.plan_scopes.solve_scopes.Goals as goal

-- something is refused
pub returns-in_err-all-clause-answer : goal.returns-in_err-all-clause-answer
returns-in_err-all-clause-answer g c =
    let p = err_from_is_err_and c.from_residual.result c.from_residual.ensures.1 in
    rw (p.1, p.2)
    (none_solved (g.H.Host.told c.args.host.now)
    c.args.patch.now c.args.budget c.in_err-all.field-0.0 c.in_err-all.ensures.answer)

-- plans are searched for
pub returns-clause-answer : goal.returns-clause-answer
returns-clause-answer g c =
    solved_in (g.H.Host.told c.args.host.now)
    c.args.patch.now c.args.budget c.in_ok-all.all c.find_plans.result c.in_ok-all.ensures.answer
    c.find_plans.ensures.answer

pub returns-clause-cause : goal.returns-clause-cause
returns-clause-cause g c =
    always_refuses c.find_plans.result (g.H.Host.counts c.args.host.now) (g.H.Host.counts c.prepare_scopes.new.host)
    c.find_plans.ensures.cause
