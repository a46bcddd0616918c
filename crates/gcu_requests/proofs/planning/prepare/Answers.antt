use Rattle.std.proofs.lemmas.Result.{err_from_is_err_and}
use Rattle.gcu_words.specs.Views.{target_view}
use Rattle.gcu_requests.specs.ReadPlannings.{IsHeld}
use Rattle.gcu_requests.proofs.PlanFinding.{gate_closed, gate_open}
use Rattle.gcu_requests.proofs.planning.prepare.Goals as goal

-- a change was stopped before its end
pub returns-in_err-held-clause-answer : goal.returns-in_err-held-clause-answer
returns-in_err-held-clause-answer g c =
    let p = err_from_is_err_and c.from_residual.result c.from_residual.ensures.1 in
    rw (p.1, p.2)
    (gate_closed (g.H.Host.told c.args.host.now) (target_view c.args.target)
    c.args.budget c.in_err-held.field-0.0 c.in_err-held.ensures.answer)

-- none was, or it is resumed
pub read_needs-requires-clause-held : goal.read_needs-requires-clause-held
read_needs-requires-clause-held g c = rw c.in_ok-held.ensures.reads.state c.in_ok-held.ensures.held

pub returns-clause-answer : goal.returns-clause-answer
returns-clause-answer g c =
    gate_open (g.H.Host.told c.args.host.now) (target_view c.args.target) c.args.budget c.in_ok-held.held
    c.read_needs.result c.in_ok-held.ensures.answer
    (rw c.in_ok-held.ensures.reads.state at c.read_needs.ensures.answer)
