-- Two lists gone through beside one another.
use Rattle.std.specs.Prelude.{◌≡◌, ◌<◌, ◌≤◌, ◌+◌, ℕ, List, length, slice_get, Some}

-- from an index of each on so many items are the same in both; behind these the lists differ, or one ends
pub record IsRun {A : Type 0} (xs : List A) (i : ℕ) (ys : List A) (j : ℕ) (n : ℕ) : Type 0 where
  pub within : i + n ≤ length xs
  pub beside : j + n ≤ length ys
  pub same : (k : ℕ) → k < n → slice_get xs (i + k) ≡ slice_get ys (j + k)
  pub ends : (x : A) → slice_get xs (i + n) ≡ Some x → ¬ (slice_get ys (j + n) ≡ Some x)
