use Rattle.std.proofs.Common.{◌≡◌, ℕ, ◌<◌, ◌-◌, ◌&&◌, leb, ltb}
use Rattle.yang_pattern.specs.PlaceSets.{contains}
use Rattle.yang_pattern.proofs.sets.Places.shift.Given as goal

abbrev pub invariant-loop-place : goal.invariant-loop-place
invariant-loop-place l = (q : ℕ) → q < 1024 → contains l.result_set q ≡ (leb l.by q && (ltb (q - l.by) l.place && contains l.self (q - l.by)))
