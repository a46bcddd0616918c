use Rattle.recheck.specs.Changes.{AreAmong, AreHandled, AreTablesHandled}
use Rattle.recheck.specs.Turned.{IsTurned}
use Rattle.recheck.specs.Within.{IsLeft}
use Rattle.recheck.proofs.changes.drop_changed.Given as goal

abbrev pub invariant-loop-table : goal.invariant-loop-table
invariant-loop-table l = record {
  among : AreAmong l.fn.verdicts.items l.verdicts.items;
  left : IsLeft (IsTurned l.models l.index.config l.next) l.fn.verdicts.items l.verdicts.items;
  handled : AreHandled l.models l.index.config l.next l.verdicts.items l.table;
  firsts : AreTablesHandled l.models l.index.config l.next l.verdicts.items l.index.config l.table;
}
