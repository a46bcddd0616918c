use Rattle.std.proofs.Common.{Err, None, Ok, refl}
use Rattle.std.proofs.lemmas.Result.{err_from_is_err_and}
use Rattle.gcu_requests.proofs.PlanFinding.{gate_passed}
use Rattle.gcu_requests.proofs.planning.pass_unstopped.Goals as goal

-- a change was stopped before its end
pub returns-in_err-test_uninterrupted-clause-answer : goal.returns-in_err-test_uninterrupted-clause-answer
returns-in_err-test_uninterrupted-clause-answer g c =
    let p = err_from_is_err_and c.from_residual.result c.from_residual.ensures.1 in
    rw (p.1, p.2)
    (gate_passed (g.H.Host.told c.args.host.now) (Err c.in_err-test_uninterrupted.field-0.0)
    (Err c.in_err-test_uninterrupted.field-0.0) refl c.in_err-test_uninterrupted.ensures.answer)

-- none was
pub returns-clause-answer : goal.returns-clause-answer
returns-clause-answer g c =
    gate_passed (g.H.Host.told c.args.host.now) (Ok tt) (Ok None) refl c.in_ok-test_uninterrupted.ensures.answer
