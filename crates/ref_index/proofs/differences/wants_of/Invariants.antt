use Rattle.ref_index.proofs.Collecting.{IsGathering}
use Rattle.ref_index.proofs.differences.wants_of.Given as goal

abbrev pub invariant-loop-at : goal.invariant-loop-at
invariant-loop-at l =
    (goal.iterator-loop-at).can_next l.at-iterator
    × (goal.iterator-loop-at).is_finite l.at-iterator
    × IsGathering l.models l.config l.table l.key l.at-iterator l.found.items
