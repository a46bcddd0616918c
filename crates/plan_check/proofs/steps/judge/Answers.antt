use Rattle.move_core.specs.Contexts.{rulebook}
use Rattle.plan_check.proofs.Causes.{of_result}
use Rattle.plan_check.proofs.steps.judge.Goals as goal

pub returns-in-Some-clause-verdict : goal.returns-in-Some-clause-verdict
returns-in-Some-clause-verdict c =
    of_result (rulebook c.args.ctx.now) c.args.goal.now c.args.cur.now c.args.mv.now
    (c.is_defined.ensures.0 c.if-not-is_defined.false) (c.in_ok-is_listed.ensures.0 c.if-not-branch.false)
    c.in_ok-next.next c.in_ok-next.ensures.step c.in-Some.why c.in-Some.ensures
