use Rattle.std.proofs.Common.{refl}
use Rattle.std.proofs.lemmas.Result.{err_from_is_err_and}
use Rattle.patch_core.specs.Operation.{operations}
use Rattle.gcu_requests.proofs.ScopesFinding.{ends_made, no_judged, no_made}
use Rattle.gcu_requests.proofs.scopes_planning.patch_ends.Goals as goal

-- the patch fails
pub returns-in_err-made-clause-answer : goal.returns-in_err-made-clause-answer
returns-in_err-made-clause-answer c = λ budget.
    let p = err_from_is_err_and c.from_residual.result c.from_residual.ensures.1 in
    rw (p.1, p.2)
    (no_made c.args.ctx.now budget (operations c.args.patch.now)
    c.args.stored.config c.in_err-made.field-0.0 c.in_err-made.ensures.answer c.in_err-made.ensures.cause)

-- what it makes is no goal
pub returns-in_err-goal-clause-answer : goal.returns-in_err-goal-clause-answer
returns-in_err-goal-clause-answer c = λ budget.
    let p = err_from_is_err_and c.from_residual-in_err-goal.result c.from_residual-in_err-goal.ensures.1 in
    rw (p.1, p.2)
    (no_judged c.args.ctx.now budget (operations c.args.patch.now)
    c.args.stored.config c.in_ok-made.made c.in_err-goal.field-0.0
    c.in_ok-made.ensures.answer c.in_err-goal.ensures.answer)

pub returns-clause-answer : goal.returns-clause-answer
returns-clause-answer c = λ budget.
    ends_made c.args.ctx.now budget (operations c.args.patch.now) c.args.stored.config c.in_ok-made.made
    c.in_ok-goal.goal _ refl refl
    c.in_ok-made.ensures.answer c.in_ok-goal.ensures.answer
