use Rattle.std.proofs.Common.{◌≡◌, ℕ, ◌<◌, ◌≤◌}
use Rattle.yang_pattern.specs.PlaceSets.{place_at, IsLedOn}
use Rattle.yang_pattern.proofs.fragments.link.Given as goal

abbrev pub invariant-loop-place : goal.invariant-loop-place
invariant-loop-place l = record {
  linked : (k : ℕ) → k < l.place-index → IsLedOn l.entered l.empty (place_at l.initial.place-items k) (place_at l.place-items k);
  left : (k : ℕ) → l.place-index ≤ k → place_at l.place-items k ≡ place_at l.initial.place-items k;
}
