use Rattle.gcu_inputs.proofs.Finding.{always_refuses}
use Rattle.gcu_requests.proofs.PlanFinding.{held_found}
use Rattle.gcu_requests.proofs.plan_goal.make_goal.Goals as goal

-- the goal of the change that was stopped
pub returns-in-Intent-clause-answer : goal.returns-in-Intent-clause-answer
returns-in-Intent-clause-answer g c =
    held_found (g.H.Host.told c.args.host.now) c.args.target.word.now c.args.target.source c.args.held c.args.start.now
    c.goal_held.result c.in-Intent.is
    c.requires.held c.goal_held.ensures.answer c.goal_held.ensures.cause

pub returns-in-Intent-clause-cause : goal.returns-in-Intent-clause-cause
returns-in-Intent-clause-cause g c =
    always_refuses c.goal_held.result (g.H.Host.counts c.args.host.now) (g.H.Host.counts c.args.host.now)
    c.goal_held.ensures.cause
