use Rattle.std.proofs.Common.{ℕ, ◌<◌, get_or}
use Rattle.ref_index.specs.declared.places.Place.{Place}
use Rattle.recheck.specs.Changes.{AreAmong, AreElsewhere, IsOnOne}
use Rattle.recheck.specs.Within.{IsLeft}
use Rattle.recheck.proofs.changes.drop_places.Given as goal

abbrev pub invariant-loop-place : goal.invariant-loop-place
invariant-loop-place l = record {
  among : AreAmong l.fn.verdicts.items l.verdicts.items;
  left : IsLeft (IsOnOne l.places) l.fn.verdicts.items l.verdicts.items;
  dropped : (k : ℕ) (d : Place) → k < l.place-index → AreElsewhere (get_or l.places k d) l.verdicts.items;
}
