use Rattle.std.proofs.Common.{◌≡◌}
use Rattle.yang_values.proofs.endings.Endings.new.Given as goal

abbrev pub invariant-loop-number : goal.invariant-loop-number
invariant-loop-number l = l.endings ≡ l.names
