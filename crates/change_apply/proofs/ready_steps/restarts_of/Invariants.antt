use Rattle.std.proofs.Common.{◌≡◌, map, take}
use Rattle.change_apply.specs.Change.{restart_of}
use Rattle.change_apply.proofs.ready_steps.restarts_of.Given as goal

abbrev pub invariant-loop-i : goal.invariant-loop-i
invariant-loop-i l = l.restarts ≡ map (restart_of l.settings) (take l.i l.services)
