use Rattle.std.proofs.lemmas.Result.{err_from_is_err_and}
use Rattle.gcu_inputs.proofs.Finding.{always_refuses}
use Rattle.gcu_requests.proofs.PlanCheckFinding.{moves_found, no_bytes}
use Rattle.gcu_requests.proofs.plan_checking.input_plan.Goals as goal

-- there are no bytes
pub returns-in_err-bytes-clause-answer : goal.returns-in_err-bytes-clause-answer
returns-in_err-bytes-clause-answer g c =
    let p = err_from_is_err_and c.from_residual.result c.from_residual.ensures.1 in
    rw (p.1, p.2)
    (no_bytes (g.H.Host.told c.args.host.now) c.args.path.now c.in_err-bytes.field-0.0 c.in_err-bytes.ensures.answer)

-- what they hold
pub returns-clause-answer : goal.returns-clause-answer
returns-clause-answer g c =
    moves_found (g.H.Host.told c.args.host.now) c.args.path.now c.in_ok-bytes.bytes c.plan_in.result
    c.in_ok-bytes.ensures.answer (rw c.items.ensures at c.plan_in.ensures.answer) c.plan_in.ensures.cause

pub returns-clause-cause : goal.returns-clause-cause
returns-clause-cause g c =
    always_refuses c.plan_in.result (g.H.Host.counts c.args.host.now) (g.H.Host.counts c.input_bytes.new.host)
    c.plan_in.ensures.cause
