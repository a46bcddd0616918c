use Rattle.std.proofs.Common.{◌≡◌, ◌+◌, ◌-◌, length}
use Rattle.conf_doc.specs.Blocks.{AreApart, AreSame, keys_of}
use Rattle.conf_doc.proofs.entries.Entries.count_same_keys.Given as goal

abbrev pub invariant-loop-next : goal.invariant-loop-next
invariant-loop-next l = record {
  so_far : AreSame (keys_of l.self) l.i (keys_of l.other) l.j l.count;
  next : AreSame (keys_of l.self) (l.i + l.count) (keys_of l.other) (l.j + l.count) l.next;
  none : l.next ≡ 0 → AreApart (keys_of l.self) (l.i + l.count) (keys_of l.other) (l.j + l.count);
}

abbrev pub decreases-loop-next : goal.decreases-loop-next
decreases-loop-next l = length l.self - l.count
