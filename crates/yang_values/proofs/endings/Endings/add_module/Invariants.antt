use Rattle.std.proofs.Common.{◌≡◌}
use Rattle.yang_values.proofs.endings.Endings.add_module.Given as goal

abbrev pub invariant-loop-place : goal.invariant-loop-place
invariant-loop-place l = l.self ≡ l.fn.self
