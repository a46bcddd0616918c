use Rattle.std.proofs.Common.{map, take}
use Rattle.plan_check.specs.Candidates.{IsFieldIn, Takes}
use Rattle.plan_check.proofs.candidates.add_fields.Given as goal

abbrev pub invariant-loop-i : goal.invariant-loop-i
invariant-loop-i l = Takes (IsFieldIn l.here l.table l.key (take l.i (map (λ f. f.0) l.entry))) l.initial.found.items l.found.items
