use Rattle.std.proofs.lemmas.Result.{err_from_is_err_and}
use Rattle.gcu_inputs.proofs.Finding.{always_refuses}
use Rattle.gcu_requests.proofs.PlanFinding.{made_found, no_made}
use Rattle.gcu_requests.proofs.patch_goal.patch_goal.Goals as goal

-- there is no patch
pub returns-in_err-patch-clause-answer : goal.returns-in_err-patch-clause-answer
returns-in_err-patch-clause-answer g c =
    let p = err_from_is_err_and c.from_residual.result c.from_residual.ensures.1 in
    rw (p.1, p.2)
    (no_made (g.H.Host.told c.args.host.now)
    c.args.path.now c.args.start.now c.in_err-patch.field-0.0 c.in_err-patch.ensures.answer)

-- there is a patch
pub returns-clause-answer : goal.returns-clause-answer
returns-clause-answer g c =
    made_found (g.H.Host.told c.args.host.now) c.args.path.now c.args.start.now c.in_ok-patch.patch c.patch_start.result
    c.in_ok-patch.ensures.answer c.patch_start.ensures.answer c.patch_start.ensures.cause

pub returns-clause-cause : goal.returns-clause-cause
returns-clause-cause g c =
    always_refuses c.patch_start.result (g.H.Host.counts c.args.host.now) (g.H.Host.counts c.input_patch.new.host)
    c.patch_start.ensures.cause
