use Rattle.plan_check.proofs.Taking.{AddsBelow}
use Rattle.plan_check.specs.Candidates.{Takes}
use Rattle.plan_check.proofs.candidates.add_item_adds.Given as goal

abbrev pub invariant-loop-i : goal.invariant-loop-i
invariant-loop-i l = Takes (AddsBelow l.place l.items l.i) l.initial.found.items l.found.items
