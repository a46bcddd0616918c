use Rattle.plan_check.specs.Touching.{IsTouched}
use Rattle.plan_check.proofs.TouchedWants.{IsLeft}
use Rattle.plan_check.proofs.rules.wants_hold.Given as goal

abbrev pub invariant-loop-at : goal.invariant-loop-at
invariant-loop-at l =
    (goal.iterator-loop-at).can_next l.at-iterator
    × (goal.iterator-loop-at).is_finite l.at-iterator
    × IsLeft l.models (IsTouched l.mv l.is_after) l.config l.other l.at-iterator
