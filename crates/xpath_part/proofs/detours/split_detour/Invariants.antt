use Rattle.std.proofs.Common.{◌≤◌}
use Rattle.xpath_part.proofs.detours.split_detour.Given as goal

abbrev pub invariant-loop-i : goal.invariant-loop-i
invariant-loop-i l = l.below ≤ l.i
