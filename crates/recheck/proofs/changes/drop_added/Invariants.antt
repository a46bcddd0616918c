use Rattle.std.proofs.Common.{◌≡◌, ◌<◌, ℕ, List, None, Some, map, slice_get}
use Rattle.conf_doc.specs.Pairs.{find}
use Rattle.recheck.specs.Changes.{AreAmong, AreUnread}
use Rattle.recheck.specs.Turned.{IsTurnedByTable}
use Rattle.recheck.specs.Within.{IsLeft}
use Rattle.recheck.proofs.changes.drop_added.Given as goal

abbrev pub invariant-loop-u : goal.invariant-loop-u
invariant-loop-u l = record {
  among : AreAmong l.fn.verdicts.items l.verdicts.items;
  left : IsLeft (IsTurnedByTable l.models l.config l.next) l.fn.verdicts.items l.verdicts.items;
  dropped : (u : ℕ) (name : List ℕ) → u < l.u → slice_get (map (λ p. p.0) l.next) u ≡ Some name → find name l.config ≡ None
      → AreUnread l.models name l.verdicts.items;
}
