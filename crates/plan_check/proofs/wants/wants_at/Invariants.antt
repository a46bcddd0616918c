use Rattle.plan_check.proofs.WantWalks.{Gathers}
use Rattle.plan_check.proofs.wants.wants_at.Given as goal

abbrev pub invariant-loop-at : goal.invariant-loop-at
invariant-loop-at l =
    (goal.iterator-loop-at).can_next l.at-iterator
    × (goal.iterator-loop-at).is_finite l.at-iterator
    × Gathers l.models l.config l.place l.at-iterator l.found.items
