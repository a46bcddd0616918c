use Rattle.std.proofs.Common.{◌≡◌, ℕ, ◌<◌, List, Some, slice_get}
use Rattle.key_split.specs.Key.{key_parts}
use Rattle.ref_index.specs.Referrers.{HasWant, want_for}
use Rattle.ref_index.specs.declared.places.Place.{Place}
use Rattle.recheck.specs.Changes.{AreAmong, AreElsewhere, MayWantPart}
use Rattle.recheck.specs.Within.{IsLeft}
use Rattle.recheck.proofs.changes.drop_parts.Given as goal

abbrev pub invariant-loop-i : goal.invariant-loop-i
invariant-loop-i l = record {
  among : AreAmong l.fn.verdicts.items l.verdicts.items;
  left : IsLeft (λ v. (part : ℕ) × MayWantPart l.index.models l.index.config l.table l.shape l.key part v) l.fn.verdicts.items l.verdicts.items;
  dropped : (k : ℕ) → k < l.i → (text : List ℕ) (p : Place) → slice_get (key_parts l.key) k ≡ Some text
      → HasWant l.index.models l.index.config (want_for l.table l.shape k text) p → AreElsewhere p l.verdicts.items;
}
