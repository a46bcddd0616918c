use Rattle.std.proofs.Common.{◌-◌, ◌^◌}
use Rattle.plan_check.specs.Backwards.{IsReached}
use Rattle.plan_check.proofs.listed.is_listed.Given as goal

abbrev pub invariant-loop-next : goal.invariant-loop-next
invariant-loop-next l = IsReached l.here l.mv l.next l.found.items

abbrev pub decreases-loop-next : goal.decreases-loop-next
decreases-loop-next l = 2 ^ 64 - l.next
