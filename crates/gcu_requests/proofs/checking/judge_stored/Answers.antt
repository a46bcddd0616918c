use Rattle.std.proofs.lemmas.Result.{err_from_is_err_and}
use Rattle.gcu_inputs.specs.IntentAsked.{uninterrupted}
use Rattle.gcu_requests.specs.Checking.{judging_asked}
use Rattle.gcu_requests.proofs.ValidityFinding.{check_of}
use Rattle.gcu_requests.proofs.IntentFinding.{gate_closed, gate_open}
use Rattle.gcu_requests.proofs.checking.judge_stored.Goals as goal

-- a change was stopped before its end
pub returns-in_err-test_uninterrupted-clause-answer : goal.returns-in_err-test_uninterrupted-clause-answer
returns-in_err-test_uninterrupted-clause-answer g c =
    let p = err_from_is_err_and c.from_residual.result c.from_residual.ensures.1 in
    rw (p.1, p.2)
    (gate_closed check_of (g.H.Host.told c.args.host.now) uninterrupted judging_asked
    c.in_err-test_uninterrupted.field-0.0 c.in_err-test_uninterrupted.ensures.answer)

-- none was
pub returns-clause-answer : goal.returns-clause-answer
returns-clause-answer g c =
    gate_open check_of (g.H.Host.told c.args.host.now) uninterrupted judging_asked c.judge_folder.result
    c.in_ok-test_uninterrupted.ensures.answer
    (rw c.test_uninterrupted.ensures.reads.state at c.judge_folder.ensures.answer)
