use Rattle.std.proofs.Common.{◌≡◌}
use Rattle.yang_values.proofs.endings.Endings.add_from.Given as goal

abbrev pub invariant-loop-round : goal.invariant-loop-round
invariant-loop-round l = l.self ≡ l.fn.self
