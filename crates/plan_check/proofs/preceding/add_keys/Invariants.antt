use Rattle.std.proofs.Common.{map, take}
use Rattle.plan_check.specs.Candidates.{Takes}
use Rattle.plan_check.specs.Nearby.{IsInKeys}
use Rattle.plan_check.proofs.preceding.add_keys.Given as goal

abbrev pub invariant-loop-i : goal.invariant-loop-i
invariant-loop-i l = Takes (IsInKeys l.sought l.config l.table (take l.i (map (λ e. e.0) l.entries))) l.initial.found.items l.found.items
