use Rattle.recheck.specs.Changes.{AreAmong, AreKeysHandled, AreUnread}
use Rattle.recheck.specs.Turned.{IsTurned}
use Rattle.recheck.specs.Within.{IsLeft}
use Rattle.recheck.proofs.changes.drop_keys.Given as goal

abbrev pub invariant-loop-i : goal.invariant-loop-i
invariant-loop-i l = record {
  among : AreAmong l.fn.verdicts.items l.verdicts.items;
  left : IsLeft (IsTurned l.models l.index.config l.next) l.fn.verdicts.items l.verdicts.items;
  unread : AreUnread l.models l.name l.verdicts.items;
  handled : AreKeysHandled l.models l.index.config l.next l.verdicts.items l.table l.i;
}
