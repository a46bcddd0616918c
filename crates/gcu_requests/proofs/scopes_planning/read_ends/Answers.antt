use Rattle.std.proofs.lemmas.Result.{err_from_is_err_and}
use Rattle.patch_core.specs.Operation.{operations}
use Rattle.gcu_requests.proofs.ScopesFinding.{ends_free, no_ends}
use Rattle.gcu_requests.proofs.scopes_planning.read_ends.Goals as goal

-- a change is under way
pub returns-in_err-test_uninterrupted-clause-answer : goal.returns-in_err-test_uninterrupted-clause-answer
returns-in_err-test_uninterrupted-clause-answer g c = λ budget.
    let p = err_from_is_err_and c.from_residual.result c.from_residual.ensures.1 in
    rw (p.1, p.2)
    (no_ends c.args.ctx.now budget (operations c.args.patch.now) (g.H.Host.told c.args.host.now)
    c.in_err-test_uninterrupted.field-0.0 c.in_err-test_uninterrupted.ensures.answer)

pub returns-clause-answer : goal.returns-clause-answer
returns-clause-answer g c = λ budget.
    ends_free c.args.ctx.now budget (operations c.args.patch.now) (g.H.Host.told c.args.host.now) tt c.read_both.result
    c.in_ok-test_uninterrupted.ensures.answer (rw c.test_uninterrupted.ensures.reads.state at
    c.read_both.ensures.answer budget)
