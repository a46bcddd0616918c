use Rattle.std.proofs.Common.{[]}
use Rattle.ref_index.specs.EntryNames.{Adds, IsOneOf}
use Rattle.ref_index.proofs.differences.changed_wants.Given as goal

abbrev pub invariant-loop-i : goal.invariant-loop-i
invariant-loop-i l =
    Adds l.models l.config l.next (IsOneOf l.config l.names l.i) [] l.changes.gone.items
    × Adds l.models l.next l.config (IsOneOf l.next l.names l.i) [] l.changes.come.items
