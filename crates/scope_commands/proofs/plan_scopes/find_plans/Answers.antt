use Rattle.std.proofs.Common.{List, [], map, sym, subst, Ok, Err}
use Rattle.std.proofs.lemmas.Result.{err_from_is_err_and}
use Rattle.gcu_inputs.specs.Asking.{of_each}
use Rattle.gcu_inputs.specs.Preparing.{AreFound, Found}
use Rattle.gcu_requests.specs.ScopesPlannings.{AreReady, scope_planning}
use Rattle.gcu_requests.specs.declared.scopes_planning.ScopeEnds.{ScopeEnds}
use Rattle.gcu_requests.proofs.EachFinding.{each_given, more_given, refused_behind}
use Rattle.command_answers.specs.ScopeTexts.{solved_asked}
use Rattle.scope_commands.specs.SolvedScopes.{scope_plan}
use Rattle.scope_commands.specs.declared.plan_scopes.ScopePlan as code
use Rattle.scope_commands.proofs.ScopesSolving.{ready_at}
use Rattle.scope_commands.proofs.plan_scopes.find_plans.Goals as goal

pub loop-scope-init : goal.loop-scope-init
loop-scope-init g c = record {
  kinds = c.requires.kinds;
  found = subst (AreFound scope_plan solved_asked []) (sym c.new-plans.ensures) tt;
}

-- each is ready for a search
pub find_one-requires-clause-ready : goal.find_one-requires-clause-ready
find_one-requires-clause-ready g c =
    ready_at c.args.all.now.ctx c.items-scope-items.result.now c.loop-scope.scope-index c.scope-item.result
    c.loop-scope-test.true c.scope-item.is
    (subst (AreReady c.args.all.now.ctx) (sym c.items-scope-items.ensures) c.requires.ready)

pub loop-scope-preserved : goal.loop-scope-preserved
loop-scope-preserved g c = record {
  kinds = c.in_ok-found.ensures.kinds;
  found =
      more_given (scope_planning c.args.all.now.ctx c.args.all.now.budget) scope_plan solved_asked
      c.items-scope-items.result.now c.loop-scope.scope-index c.scope-item.result
      c.loop-scope.plans _ c.in_ok-found.found c.loop-scope-test.true c.scope-item.is c.in_ok-push.ensures.ok
      c.loop-scope.invariant.found c.in_ok-found.ensures.answer.gives;
}

-- there is no plan for one
pub returns-in_err-found-clause-answer : goal.returns-in_err-found-clause-answer
returns-in_err-found-clause-answer g c =
    let p = err_from_is_err_and c.from_residual.result c.from_residual.ensures.1 in
    rw (p.1, p.2)
    (subst (λ (es : List ScopeEnds). Found {X = List code.ScopePlan} (map scope_plan) (Err c.in_err-found.field-0.0)
    (of_each solved_asked (map (scope_planning c.args.all.now.ctx c.args.all.now.budget) es)))
    c.items-scope-items.ensures
    (refused_behind (scope_planning c.args.all.now.ctx c.args.all.now.budget) scope_plan solved_asked
    c.items-scope-items.result.now c.loop-scope.scope-index c.scope-item.result
    c.loop-scope.plans c.in_err-found.field-0.0 c.loop-scope-test.true c.scope-item.is c.loop-scope.invariant.found
    c.in_err-found.ensures.answer))

-- there is one for each
pub returns-clause-answer : goal.returns-clause-answer
returns-clause-answer g c =
    subst (λ (es : List ScopeEnds). Found (map scope_plan) (Ok c.loop-scope.plans)
    (of_each solved_asked (map (scope_planning c.args.all.now.ctx c.args.all.now.budget) es)))
    c.items-scope-items.ensures
    (each_given (scope_planning c.args.all.now.ctx c.args.all.now.budget) scope_plan solved_asked
    c.items-scope-items.result.now c.loop-scope.scope-index c.loop-scope.plans c.loop-scope-test.false
    c.loop-scope.invariant.found)
