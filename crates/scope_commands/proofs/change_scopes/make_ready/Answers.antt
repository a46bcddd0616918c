use Rattle.std.proofs.Common.{◌≤◌, List, Err, sym, subst}
use Rattle.std.proofs.lemmas.Result.{err_from_is_err_and}
use Rattle.gcu_words.specs.Options.{most_budget}
use Rattle.gcu_requests.specs.ScopesPlannings.{plans_of}
use Rattle.gcu_inputs.proofs.Finding.{always_refuses}
use Rattle.scope_commands.specs.declared.plan_scopes.ScopePlan as code
use Rattle.scope_commands.proofs.ScopesDoing.{unread_says, unsolved_says}
use Rattle.scope_commands.proofs.ScopeOrder.{in_order}
use Rattle.scope_commands.proofs.ScopeReadiness.{are_works, found_each, found_long}
use Rattle.scope_commands.proofs.ScopesSolving.{solved_in}
use Rattle.scope_commands.proofs.change_scopes.make_ready.Goals as goal

-- something is refused
pub returns-in_err-all-clause-refused : goal.returns-in_err-all-clause-refused
returns-in_err-all-clause-refused g c =
    let p = err_from_is_err_and c.from_residual.result c.from_residual.ensures.1 in
    rw (p.1, p.2)
    (unread_says (g.H.Host.told c.args.host.now)
    c.args.patch.now c.args.budget c.in_err-all.field-0.0 (g.H.Host.counts c.args.host.now)
    (g.H.Host.counts c.prepare_scopes.new.host)
    c.in_err-all.ensures.cause c.in_err-all.ensures.answer)

-- there is no plan for a scope
pub returns-in_err-plans-clause-refused : goal.returns-in_err-plans-clause-refused
returns-in_err-plans-clause-refused g c =
    let p = err_from_is_err_and c.from_residual-in_err-plans.result c.from_residual-in_err-plans.ensures.1 in
    rw (p.1, p.2)
    (unsolved_says (g.H.Host.told c.args.host.now)
    c.args.patch.now c.args.budget c.in_err-plans.field-0.0 (g.H.Host.counts c.args.host.now)
    (g.H.Host.counts c.prepare_scopes.new.host)
    (always_refuses {X = List code.ScopePlan} (Err c.in_err-plans.field-0.0) (g.H.Host.counts c.args.host.now)
    (g.H.Host.counts c.prepare_scopes.new.host) c.in_err-plans.ensures.cause)
    (solved_in (g.H.Host.told c.args.host.now)
    c.args.patch.now c.args.budget c.in_ok-all.all (Err c.in_err-plans.field-0.0)
    c.in_ok-all.ensures.answer c.in_err-plans.ensures.answer))

-- there is one for each
pub ready_bytes-requires-clause-found : goal.ready_bytes-requires-clause-found
ready_bytes-requires-clause-found g c =
    found_each (plans_of c.in_ok-all.all) c.in_ok-plans.plans c.in_ok-plans.ensures.answer.gives

pub ready_bytes-requires-clause-most : goal.ready_bytes-requires-clause-most
ready_bytes-requires-clause-most g c = subst (λ n. n ≤ most_budget) (sym c.in_ok-all.ensures.budget) c.requires.most

pub returns-in-Ok-clause-works : goal.returns-in-Ok-clause-works
returns-in-Ok-clause-works g c =
    are_works (g.H.Host.told c.args.host.now) c.args.patch.now c.args.budget c.in_ok-all.all c.in_ok-plans.plans _
    c.in_ok-all.ensures.answer c.in_ok-all.ensures.stands
    (found_each (plans_of c.in_ok-all.all) c.in_ok-plans.plans c.in_ok-plans.ensures.answer.gives)
    c.in-Ok.ensures.changes

pub returns-in-Ok-clause-order : goal.returns-in-Ok-clause-order
returns-in-Ok-clause-order g c =
    let all = c.in_ok-all.all in
    in_order all.ctx.settings all.scopes c.in_ok-plans.plans _ c.in_ok-all.ensures.order
    (found_long all.ctx all.budget all.scopes c.in_ok-plans.plans (found_each (plans_of all)
    c.in_ok-plans.plans c.in_ok-plans.ensures.answer.gives))
    c.in-Ok.ensures.changes
