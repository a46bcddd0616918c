-- What is said of an item of a list, by its place.
use Rattle.std.proofs.Common.{◌≡◌, ◌<◌, ◌≤◌, ℕ, List, Option, Some, None, length, slice_get, IsSomeAnd, subst, inl, inr, arith}
use Rattle.std.proofs.lemmas.Bool.{cases_lt}
use Rattle.std.proofs.lemmas.Option.{slice_get_past}

module _ {A : Type 0} (P : A → Type 0) where
  pub some_from : (o : Option A) (x : A) → o ≡ Some x → IsSomeAnd o P → P x
  some_from o x is p = subst (λ o. IsSomeAnd o P) is p

  pub none_is : (o : Option A) → o ≡ None → ¬ IsSomeAnd o P
  none_is o is p = subst (λ o. IsSomeAnd o P) is p

-- nothing up to the end, and nothing past it
pub none_at_all : {A : Type 0} (P : A → Type 0) (xs : List A) (i : ℕ) → length xs ≤ i → ((j : ℕ) → j < i → ¬ IsSomeAnd (slice_get xs j) P)
    → (j : ℕ) → ¬ IsSomeAnd (slice_get xs j) P
none_at_all P xs i past before j p =
    elim (cases_lt j i) [
      | inl less ↦ before j less p
      | inr more ↦ none_is P (slice_get xs j) (slice_get_past xs j (omega arith)) p
    ]
