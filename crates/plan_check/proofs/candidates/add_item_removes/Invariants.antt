use Rattle.plan_check.proofs.Taking.{RemovesBelow}
use Rattle.plan_check.specs.Candidates.{Takes}
use Rattle.plan_check.proofs.candidates.add_item_removes.Given as goal

abbrev pub invariant-loop-i : goal.invariant-loop-i
invariant-loop-i l = Takes (RemovesBelow l.place l.i) l.initial.found.items l.found.items
