use Rattle.std.proofs.Common.{[]}
use Rattle.move_extend.proofs.EntryWants.{IsEntryWalk}
use Rattle.move_extend.proofs.referrers.removals_in_entry.Given as goal

abbrev pub invariant-loop-at : goal.invariant-loop-at
invariant-loop-at l =
    (goal.iterator-loop-at).can_next l.at-iterator
    × (goal.iterator-loop-at).is_finite l.at-iterator
    × IsEntryWalk l.change l.gone.table.now l.table l.key [] l.at-iterator l.found
