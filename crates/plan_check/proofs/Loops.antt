-- Loops that stop at the first item that is as asked.
use Rattle.std.proofs.Common.{◌≡◌, ◌↔◌, ℕ, ◌+◌, ◌<◌, ◌≤◌, List, Bool, true, false, not, length, get_or, slice_get, Contains, Some, IsTrue, inl, inr, refl, sym, ap, ◌∙◌, subst, true≢false, arith}
use Rattle.std.proofs.lemmas.Bool.{cases_lt}
use Rattle.std.proofs.lemmas.Option.{get_or_from_slice_get, slice_get_read, slice_get_within}

-- a test that failed
pub not_so : {P : Type 0} (b : Bool) → (P → IsTrue b) → b ≡ false → ¬ P
not_so b says failed p = true≢false (sym (says p) ∙ failed)

-- a test that is turned
pub negated : {P : Type 0} (b : Bool) → (IsTrue b ↔ P) → IsTrue (not b) ↔ (¬ P)
negated true says = (λ t. absurd cc, λ other. absurd (other (says.0 refl)))
negated false says = (λ t p. absurd (true≢false (sym (says.1 p))), λ other. refl)

module _ {A : Type 0} where
  -- the item at an index
  pub at_index : (xs : List A) (i : ℕ) (x : A) → i < length xs → x ≡ get_or xs i x → slice_get xs i ≡ Some x
  at_index xs i x lt is = slice_get_read xs (length xs) i x refl_length lt is
    where
      refl_length : length xs ≡ length xs
      refl_length = λ _. length xs

  pub at_contained : (xs : List A) (y : A) (has : Contains xs y) → slice_get xs has.0 ≡ Some y
  at_contained xs y has = at_index xs has.0 y has.1 (sym has.2)

  pub there_at : (xs : List A) (i : ℕ) (x : A) → slice_get xs i ≡ Some x → Contains xs x
  there_at xs i x at = (i, slice_get_within xs i x at, get_or_from_slice_get xs i x x at)

  module _ (P : A → Type 0) (xs : List A) where
    -- none before an index, and not the one there
    pub none_more : (i : ℕ) (x : A) → slice_get xs i ≡ Some x → ¬ P x → ((j : ℕ) (y : A) → j < i → slice_get xs j ≡ Some y → ¬ P y)
        → (j : ℕ) (y : A) → j < i + 1 → slice_get xs j ≡ Some y → ¬ P y
    none_more i x at other before j y lt there = elim (cases_lt j i) [
      | inl old ↦ before j y old there
      | inr new ↦
          let same : j ≡ i = omega arith in
          let item : x ≡ y = same_Some x y (sym at ∙ ap (slice_get xs) (sym same) ∙ there) in
          subst (λ z. ¬ P z) item other
    ]
      where
        same_Some : (a b : A) → Some a ≡ Some b → a ≡ b
        same_Some a b e = cc

    -- none at all
    pub none_all : (n : ℕ) → length xs ≤ n → ((j : ℕ) (y : A) → j < n → slice_get xs j ≡ Some y → ¬ P y) → (y : A) → Contains xs y → ¬ P y
    none_all n end none y has = let within = has.1 in none has.0 y (omega arith) (at_contained xs y has)
