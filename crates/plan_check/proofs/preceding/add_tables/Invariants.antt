use Rattle.std.proofs.Common.{map, take}
use Rattle.plan_check.specs.Candidates.{Takes}
use Rattle.plan_check.specs.Nearby.{IsInTables}
use Rattle.plan_check.proofs.preceding.add_tables.Given as goal

abbrev pub invariant-loop-i : goal.invariant-loop-i
invariant-loop-i l = Takes (IsInTables l.sought l.config (take l.i (map (λ e. e.0) l.config))) l.initial.found.items l.found.items
