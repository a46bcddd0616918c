use Rattle.std.proofs.Common.{◌≤◌, length, drop}
use Rattle.move_core.proofs.ServiceNames.{Seen}
use Rattle.move_core.proofs.rules_file.distinct.Given as goal

abbrev pub invariant-loop-i : goal.invariant-loop-i
invariant-loop-i l = (l.i ≤ length l.ties) × Seen l.names (drop l.i l.ties)

abbrev pub decreases-loop-i : goal.decreases-loop-i
decreases-loop-i l = l.i
