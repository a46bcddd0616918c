use Rattle.std.proofs.lemmas.Result.{err_from_is_err_and}
use Rattle.gcu_inputs.proofs.Finding.{always_refuses}
use Rattle.gcu_requests.proofs.TreeFinding.{no_patch, no_stored, target_found}
use Rattle.gcu_requests.proofs.previewing.patch_stored.Goals as goal

-- the folder stands for no configuration
pub returns-in_err-start-clause-answer : goal.returns-in_err-start-clause-answer
returns-in_err-start-clause-answer g c =
    let p = err_from_is_err_and c.from_residual.result c.from_residual.ensures.1 in
    rw (p.1, p.2)
    (no_stored (g.H.Host.told c.args.host.now) c.args.path.now c.in_err-start.field-0.0 c.in_err-start.ensures.answer)

-- there is no patch
pub returns-in_err-patch-clause-answer : goal.returns-in_err-patch-clause-answer
returns-in_err-patch-clause-answer g c =
    let p = err_from_is_err_and c.from_residual-in_err-patch.result c.from_residual-in_err-patch.ensures.1 in
    rw (p.1, p.2)
    (no_patch (g.H.Host.told c.args.host.now) c.args.path.now c.in_ok-start.start c.in_err-patch.field-0.0
    c.in_ok-start.ensures.answer (rw c.in_ok-start.ensures.reads.state at c.in_err-patch.ensures.answer))

-- there are a configuration and a patch
pub returns-clause-answer : goal.returns-clause-answer
returns-clause-answer g c =
    target_found (g.H.Host.told c.args.host.now) c.args.path.now c.in_ok-start.start c.in_ok-patch.patch
    c.patched_tree.result
    c.in_ok-start.ensures.answer (rw c.in_ok-start.ensures.reads.state at c.in_ok-patch.ensures.answer)
    c.patched_tree.ensures.answer c.patched_tree.ensures.cause

pub returns-clause-cause : goal.returns-clause-cause
returns-clause-cause g c =
    always_refuses c.patched_tree.result (g.H.Host.counts c.args.host.now) (g.H.Host.counts c.input_patch.new.host)
    c.patched_tree.ensures.cause
