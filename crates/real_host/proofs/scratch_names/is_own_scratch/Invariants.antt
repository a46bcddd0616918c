-- The name is that of none of the ASICs so far.
use Rattle.std.proofs.Common.{◌≤◌}
use Rattle.real_host.proofs.Numbers.{IsNoneBelow}
use Rattle.real_host.proofs.scratch_names.is_own_scratch.Given as goal

abbrev pub invariant-loop-number : goal.invariant-loop-number
invariant-loop-number l = (l.number ≤ 256) × IsNoneBelow l.name l.number
