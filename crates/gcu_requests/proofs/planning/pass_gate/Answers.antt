use Rattle.gcu_requests.proofs.PlanFinding.{gate_intent, gate_other, intent_held, other_held}
use Rattle.gcu_requests.proofs.planning.pass_gate.Goals as goal

-- another target than a change that was stopped
pub returns-in-Patch-clause-answer : goal.returns-in-Patch-clause-answer
returns-in-Patch-clause-answer g c =
    gate_other (g.H.Host.told c.args.host.now) c.args.target.word.now c.args.target.source c.pass_unstopped.result
    c.in-Patch.is
    c.pass_unstopped.ensures.answer

pub returns-in-Patch-clause-held : goal.returns-in-Patch-clause-held
returns-in-Patch-clause-held g c =
    other_held (g.H.Host.told c.args.host.now) c.args.target.word.now c.args.target.source c.pass_unstopped.result
    c.in-Patch.is

-- one is resumed
pub returns-in-Intent-clause-answer : goal.returns-in-Intent-clause-answer
returns-in-Intent-clause-answer g c =
    gate_intent (g.H.Host.told c.args.host.now) c.args.target.word.now c.args.target.source c.read_interrupted.result
    c.in-Intent.is
    c.read_interrupted.ensures.answer

pub returns-in-Intent-clause-held : goal.returns-in-Intent-clause-held
returns-in-Intent-clause-held g c =
    intent_held (g.H.Host.told c.args.host.now) c.args.target.word.now c.args.target.source c.read_interrupted.result
    c.in-Intent.is
    c.read_interrupted.ensures.held
