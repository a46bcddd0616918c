use Rattle.std.proofs.Common.{IsTrue, take}
use Rattle.conf_check.specs.Validity.{IsValid}
use Rattle.move_core.specs.Contexts.{rulebook}
use Rattle.move_core.specs.Plans.{IsWay}
use Rattle.plan_check.proofs.plans.check_plan.Given as goal

abbrev pub invariant-loop-i : goal.invariant-loop-i
invariant-loop-i l =
    IsWay (rulebook l.ctx) l.goal l.start (take l.i l.moves) l.cur × (IsTrue l.is_known → IsValid l.ctx.models l.cur)
