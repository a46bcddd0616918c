use Rattle.std.proofs.lemmas.Result.{err_from_is_err_and}
use Rattle.gcu_inputs.specs.IntentAsked.{uninterrupted}
use Rattle.gcu_requests.specs.DemoAsked.{generating_asked}
use Rattle.gcu_requests.specs.ReadPlannings.{planning_of}
use Rattle.gcu_requests.proofs.IntentFinding.{gate_closed, gate_open}
use Rattle.gcu_requests.proofs.demo_planning.prepare_demo.Goals as goal

-- a change was stopped before its end
pub returns-in_err-test_uninterrupted-clause-answer : goal.returns-in_err-test_uninterrupted-clause-answer
returns-in_err-test_uninterrupted-clause-answer g c =
    let p = err_from_is_err_and c.from_residual.result c.from_residual.ensures.1 in
    rw (p.1, p.2)
    (gate_closed planning_of (g.H.Host.told c.args.host.now) uninterrupted
    (generating_asked c.args.size.seed c.args.size.ports)
    c.in_err-test_uninterrupted.field-0.0 c.in_err-test_uninterrupted.ensures.answer)

-- none was
pub returns-clause-answer : goal.returns-clause-answer
returns-clause-answer g c =
    gate_open planning_of (g.H.Host.told c.args.host.now) uninterrupted
    (generating_asked c.args.size.seed c.args.size.ports) c.read_demo.result c.in_ok-test_uninterrupted.ensures.answer
    (rw c.test_uninterrupted.ensures.reads.state at c.read_demo.ensures.answer)
