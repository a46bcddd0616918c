use Rattle.std.proofs.lemmas.Result.{err_from_is_err_and}
use Rattle.gcu_requests.proofs.IntentFinding.{preview_closed, preview_open}
use Rattle.gcu_requests.proofs.previewing.preview.Goals as goal

-- a change was stopped before its end
pub returns-in_err-test_uninterrupted-clause-answer : goal.returns-in_err-test_uninterrupted-clause-answer
returns-in_err-test_uninterrupted-clause-answer g c =
    let p = err_from_is_err_and c.from_residual.result c.from_residual.ensures.1 in
    rw (p.1, p.2)
    (preview_closed (g.H.Host.told c.args.host.now)
    c.args.path.now c.in_err-test_uninterrupted.field-0.0 c.in_err-test_uninterrupted.ensures.answer)

-- none was
pub returns-clause-answer : goal.returns-clause-answer
returns-clause-answer g c =
    preview_open (g.H.Host.told c.args.host.now) c.args.path.now c.patch_stored.result
    c.in_ok-test_uninterrupted.ensures.answer
    (rw c.test_uninterrupted.ensures.reads.state at c.patch_stored.ensures.answer)
