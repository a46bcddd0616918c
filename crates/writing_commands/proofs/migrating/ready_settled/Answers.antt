use Rattle.std.proofs.lemmas.Result.{err_from_is_err_and}
use Rattle.gcu_inputs.specs.IntentAsked.{uninterrupted}
use Rattle.gcu_requests.specs.Asked.{old_asked}
use Rattle.gcu_requests.proofs.IntentFinding.{gate_closed, gate_open}
use Rattle.writing_commands.proofs.MigrationReadiness.{of_ready}
use Rattle.writing_commands.proofs.migrating.ready_settled.Goals as goal

-- a change was stopped before its end
pub returns-in_err-test_uninterrupted-clause-answer : goal.returns-in_err-test_uninterrupted-clause-answer
returns-in_err-test_uninterrupted-clause-answer g c =
    let p = err_from_is_err_and c.from_residual.result c.from_residual.ensures.1 in
    rw (p.1, p.2)
    (gate_closed of_ready (g.H.Host.told c.args.host.now) uninterrupted old_asked
    c.in_err-test_uninterrupted.field-0.0 c.in_err-test_uninterrupted.ensures.answer)

-- none was
pub returns-clause-answer : goal.returns-clause-answer
returns-clause-answer g c =
    gate_open of_ready (g.H.Host.told c.args.host.now) uninterrupted old_asked c.prepare_lines.result
    c.in_ok-test_uninterrupted.ensures.answer
    (rw c.test_uninterrupted.ensures.reads.state at c.prepare_lines.ensures.answer)

pub returns-clause-due : goal.returns-clause-due
returns-clause-due g c = rw c.test_uninterrupted.ensures.reads.state at c.prepare_lines.ensures.due

-- ---- time
