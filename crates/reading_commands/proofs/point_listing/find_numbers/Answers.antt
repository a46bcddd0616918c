use Rattle.std.proofs.Common.{map}
use Rattle.std.proofs.lemmas.Result.{err_from_is_err_and}
use Rattle.checkpoints.specs.Answers.{numbered_view}
use Rattle.gcu_inputs.specs.IntentAsked.{uninterrupted}
use Rattle.gcu_requests.specs.Asked.{numbers_asked}
use Rattle.gcu_requests.specs.Request.{list_checkpoints}
use Rattle.gcu_requests.proofs.IntentFinding.{gate_closed, gate_open}
use Rattle.reading_commands.proofs.point_listing.find_numbers.Goals as goal

-- a change was stopped before its end
pub returns-in_err-test_uninterrupted-clause-answer : goal.returns-in_err-test_uninterrupted-clause-answer
returns-in_err-test_uninterrupted-clause-answer g c =
    let p = err_from_is_err_and c.from_residual.result c.from_residual.ensures.1 in
    rw (p.1, p.2)
    (gate_closed (λ all. list_checkpoints (map numbered_view all)) (g.H.Host.told c.args.host.now) uninterrupted
    numbers_asked c.in_err-test_uninterrupted.field-0.0 c.in_err-test_uninterrupted.ensures.answer)

-- none was
pub returns-clause-answer : goal.returns-clause-answer
returns-clause-answer g c =
    gate_open (λ all. list_checkpoints (map numbered_view all)) (g.H.Host.told c.args.host.now) uninterrupted
    numbers_asked c.read_numbers.result c.in_ok-test_uninterrupted.ensures.answer
    (rw c.test_uninterrupted.ensures.reads.state at c.read_numbers.ensures.answer)

-- ---- time
