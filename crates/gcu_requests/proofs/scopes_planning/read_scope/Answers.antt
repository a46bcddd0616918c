use Rattle.std.proofs.Common.{refl}
use Rattle.scopes.specs.Splitting.{part_of}
use Rattle.gcu_requests.proofs.ScopesFinding.{part_found, part_refused, refusal_refuses}
use Rattle.gcu_requests.proofs.scopes_planning.read_scope.Goals as goal

pub returns-in-Ok-clause-answer : goal.returns-in-Ok-clause-answer
returns-in-Ok-clause-answer g c = λ budget.
    part_found (part_of c.args.part.now) c.args.ctx.now budget (g.H.Host.told c.args.host.now) _ refl
    (c.in-Ok.ensures.answer budget)

pub returns-in-Err-clause-answer : goal.returns-in-Err-clause-answer
returns-in-Err-clause-answer g c = λ budget.
    part_refused c.args.part.now.scope (part_of c.args.part.now) c.args.ctx.now budget (g.H.Host.told c.args.host.now)
    (g.H.Host.counts c.args.host.now) (g.H.Host.counts c.view_ends.new.host) c.in-Err.refusal c.refuse_scope.result refl
    c.in-Err.ensures.cause c.refuse_scope.ensures (c.in-Err.ensures.answer budget)

pub returns-in-Err-clause-cause : goal.returns-in-Err-clause-cause
returns-in-Err-clause-cause g c =
    refusal_refuses c.args.part.now.scope (g.H.Host.counts c.args.host.now) (g.H.Host.counts c.view_ends.new.host)
    c.in-Err.refusal c.refuse_scope.result
    c.in-Err.ensures.cause c.refuse_scope.ensures
