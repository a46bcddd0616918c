use Rattle.std.proofs.Common.{◌≡◌, ◌+◌, ◌-◌, length}
use Rattle.conf_doc.specs.Blocks.{AreApart, AreSame}
use Rattle.conf_doc.proofs.entries.Entries.count_same.Given as goal

abbrev pub invariant-loop-next : goal.invariant-loop-next
invariant-loop-next l = record {
  so_far : AreSame l.self l.i l.other l.j l.count;
  next : AreSame l.self (l.i + l.count) l.other (l.j + l.count) l.next;
  none : l.next ≡ 0 → AreApart l.self (l.i + l.count) l.other (l.j + l.count);
}

abbrev pub decreases-loop-next : goal.decreases-loop-next
decreases-loop-next l = length l.self - l.count
