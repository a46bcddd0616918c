-- What the plans of all scopes need, scope after scope.
use Rattle.std.proofs.Common.{map, refl, rules, sym, ap, ◌∙◌, subst, arith}
use Rattle.std.proofs.lemmas.List.{take_all}
use Rattle.std.proofs.lemmas.Result.{err_from_is_err_and}
use Rattle.scopes.specs.Splitting.{part_of}
use Rattle.gcu_requests.specs.ScopesAsked.{part_asked}
use Rattle.gcu_requests.specs.ScopesPlannings.{AreReady, scope_planning}
use Rattle.gcu_requests.specs.declared.scopes_planning.ScopeEnds.{ScopeEnds}
use Rattle.scopes.specs.declared.splitting.Scoped.{Scoped}
use Rattle.gcu_requests.proofs.EachFinding.{all_found, more_found, none_found, refused_among}
use Rattle.gcu_requests.proofs.ScopeOrder.{scopes_more}
use Rattle.gcu_requests.proofs.ScopesFinding.{none_stands, ready_more, stands_more}
use Rattle.gcu_requests.proofs.ViewEnds.{still_clean, still_here, still_on}
use Rattle.gcu_requests.proofs.scopes_planning.read_scopes.Goals as goal

pub loop-part-init : goal.loop-part-init
loop-part-init g c = record {
  found =
      λ budget. none_found part_of (scope_planning c.args.ctx.now budget) (part_asked c.args.ctx.now budget)
      c.args.parts.now (g.H.Host.told c.args.host.now) c.new-all.result c.new-all.ensures;
  ready = subst (AreReady c.args.ctx.now) (sym c.new-all.ensures) tt;
  scopes = ap (map (λ (e : ScopeEnds). e.scope)) c.new-all.ensures;
  stands = none_stands (g.H.Host.told c.args.host.now) c.new-all.result c.new-all.ensures;
  still = still_here g.H.Host.told g.H.Host.moment g.H.Host.left_since c.args.host.now;
  counts = ((g.H.Host.counts c.args.host.now).disk, omega arith, refl);
  goes = g.met.H.Host.begins c.args.host.now;
}

-- nothing is pending, since nothing was at the beginning
pub read_scope-requires-clause-ready : goal.read_scope-requires-clause-ready
read_scope-requires-clause-ready g c =
    still_clean (g.H.Host.told c.args.host.now) (g.H.Host.told c.loop-part.host) c.loop-part.invariant.still.tells
    c.requires.ready

pub loop-part-preserved : goal.loop-part-preserved
loop-part-preserved g c = record {
  found = λ budget.
      more_found part_of (scope_planning c.args.ctx.now budget) (part_asked c.args.ctx.now budget) c.args.parts.now
      c.loop-part.part-index c.part-item.result (g.H.Host.told c.args.host.now) (g.H.Host.told c.loop-part.host)
      c.loop-part.all _ c.in_ok-found.found
      c.loop-part-test.true c.part-item.is c.loop-part.invariant.still.tells c.in_ok-push.ensures.ok
      (c.loop-part.invariant.found budget) (c.in_ok-found.ensures.answer budget);
  ready =
      ready_more c.args.ctx.now c.loop-part.all _ c.in_ok-found.found c.in_ok-push.ensures.ok
      c.loop-part.invariant.ready c.in_ok-found.ensures.ready;
  scopes =
      scopes_more c.args.parts.now c.loop-part.part-index c.part-item.result c.loop-part.all _ c.in_ok-found.found
      c.loop-part-test.true c.part-item.is c.in_ok-push.ensures.ok c.loop-part.invariant.scopes
      c.in_ok-found.ensures.scope;
  stands =
      stands_more (g.H.Host.told c.args.host.now) (g.H.Host.told c.loop-part.host) c.loop-part.all _ c.in_ok-found.found
      c.loop-part.invariant.still.tells c.in_ok-push.ensures.ok c.loop-part.invariant.stands
      c.in_ok-found.ensures.stands;
  still =
      still_on g.H.Host.told g.H.Host.moment g.H.Host.left_since c.args.host.now c.loop-part.host c.read_scope.new.host
      c.loop-part.invariant.still c.read_scope.ensures.still;
  counts = search rules;
  goes =
      g.met.H.Host.continues c.args.host.now c.loop-part.host c.read_scope.new.host c.loop-part.invariant.goes
      c.read_scope.ensures.goes;
}

-- one is refused
pub returns-in_err-found-clause-answer : goal.returns-in_err-found-clause-answer
returns-in_err-found-clause-answer g c = λ budget.
    let p = err_from_is_err_and c.from_residual.result c.from_residual.ensures.1 in
    rw (p.1, p.2)
    (refused_among part_of (scope_planning c.args.ctx.now budget) (part_asked c.args.ctx.now budget)
    c.args.parts.now c.loop-part.part-index c.part-item.result (g.H.Host.told c.args.host.now)
    (g.H.Host.told c.loop-part.host) c.loop-part.all c.in_err-found.field-0.0
    c.loop-part-test.true c.part-item.is c.loop-part.invariant.still.tells (c.loop-part.invariant.found budget)
    (c.in_err-found.ensures.answer budget))

-- all are found
pub returns-clause-answer : goal.returns-clause-answer
returns-clause-answer g c = λ budget.
    all_found part_of (scope_planning c.args.ctx.now budget) (part_asked c.args.ctx.now budget) c.args.parts.now
    c.loop-part.part-index (g.H.Host.told c.args.host.now) c.loop-part.all c.loop-part-test.false
    (c.loop-part.invariant.found budget)

pub returns-clause-scopes : goal.returns-clause-scopes
returns-clause-scopes g c =
    c.loop-part.invariant.scopes
    ∙ ap (map (λ (p : Scoped). p.scope)) (take_all c.loop-part.part-index c.args.parts.now c.loop-part-test.false)

pub returns-in_err-found-clause-still : goal.returns-in_err-found-clause-still
returns-in_err-found-clause-still g c =
    still_on g.H.Host.told g.H.Host.moment g.H.Host.left_since c.args.host.now c.loop-part.host c.read_scope.new.host
    c.loop-part.invariant.still c.read_scope.ensures.still

pub returns-in_err-found-clause-goes : goal.returns-in_err-found-clause-goes
returns-in_err-found-clause-goes g c =
    g.met.H.Host.continues c.args.host.now c.loop-part.host c.read_scope.new.host c.loop-part.invariant.goes
    c.read_scope.ensures.goes
