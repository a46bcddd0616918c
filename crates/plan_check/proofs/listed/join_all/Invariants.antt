use Rattle.std.proofs.Common.{take}
use Rattle.plan_check.specs.Backwards.{Joins, LeadsOf}
use Rattle.plan_check.proofs.listed.join_all.Given as goal

abbrev pub invariant-loop-mv : goal.invariant-loop-mv
invariant-loop-mv l =
    let h = l.sought.here.now in
    Joins h (LeadsOf h (take l.mv-index l.moves) l.sought.mv.now) l.initial.found.items l.found.items
