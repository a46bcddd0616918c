use Rattle.std.proofs.lemmas.Result.{err_from_is_err_and}
use Rattle.patch_core.specs.Operation.{operations}
use Rattle.gcu_inputs.proofs.Finding.{always_refuses}
use Rattle.gcu_requests.proofs.ScopesFinding.{ends_found, ends_ready, ends_stand, no_start}
use Rattle.gcu_requests.proofs.scopes_planning.read_both.Goals as goal

-- there is no valid start
pub returns-in_err-stored-clause-answer : goal.returns-in_err-stored-clause-answer
returns-in_err-stored-clause-answer g c = λ budget.
    let p = err_from_is_err_and c.from_residual.result c.from_residual.ensures.1 in
    rw (p.1, p.2)
    (no_start c.args.ctx.now budget (operations c.args.patch.now) (g.H.Host.told c.args.host.now)
    c.in_err-stored.field-0.0 c.in_err-stored.ensures.answer)

pub returns-clause-answer : goal.returns-clause-answer
returns-clause-answer g c = λ budget.
    ends_found c.args.ctx.now budget (operations c.args.patch.now) (g.H.Host.told c.args.host.now) c.in_ok-stored.stored
    c.patch_ends.result
    c.in_ok-stored.ensures.answer (c.patch_ends.ensures.answer budget)

pub returns-clause-ready : goal.returns-clause-ready
returns-clause-ready g c =
    ends_ready c.args.ctx.now c.in_ok-stored.stored c.patch_ends.result c.requires.named c.in_ok-stored.ensures.formed
    c.in_ok-stored.ensures.names
    c.in_ok-stored.ensures.valid c.patch_ends.ensures.same c.patch_ends.ensures.valid c.patch_ends.ensures.elsewhere

pub returns-clause-stands : goal.returns-clause-stands
returns-clause-stands g c =
    ends_stand (g.H.Host.told c.args.host.now) c.in_ok-stored.stored c.patch_ends.result c.in_ok-stored.ensures.stands
    c.patch_ends.ensures.same

pub returns-clause-cause : goal.returns-clause-cause
returns-clause-cause g c =
    always_refuses c.patch_ends.result (g.H.Host.counts c.args.host.now) (g.H.Host.counts c.read_start.new.host)
    c.patch_ends.ensures.cause
