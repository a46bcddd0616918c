use Rattle.std.proofs.Common.{map}
use Rattle.move_core.specs.Kinds.{AreBefore}
use Rattle.gcu_requests.specs.GoalTables.{AgreeAt}
use Rattle.gcu_requests.proofs.tables_elsewhere.first_difference.Given as goal

abbrev pub invariant-loop-i : goal.invariant-loop-i
invariant-loop-i l = AreBefore l.i (AgreeAt l.ctx l.of l.other) (map (λ p. p.0) l.of)
