use Rattle.std.proofs.Common.{map}
use Rattle.move_core.specs.Kinds.{AreBefore}
use Rattle.gcu_requests.specs.GoalTables.{HasKeysAt}
use Rattle.gcu_requests.proofs.empty_tables.empty_table.Given as goal

abbrev pub invariant-loop-i : goal.invariant-loop-i
invariant-loop-i l = AreBefore l.i (HasKeysAt l.ctx l.config) (map (λ p. p.0) l.config)
