-- The first element that passes a test, after a change of one element.
use Rattle.std.proofs.Common.{◌≡◌, ◌<◌, ◌≤◌, ℕ, zero, suc, List, [], ◌∷◌, ◌++◌, Bool, true, false, cond, not, None, Some, length, get_or, set, refl, ap, inl, inr, ◌+◌, arith}
use Rattle.std.specs.List.{find, position, position_or_len, prefix_len}
use Rattle.std.proofs.lemmas.Bool.{cases_lt}
use Rattle.std.proofs.lemmas.Bool.Decides.{Decides-ltb}
use Rattle.std.proofs.lemmas.List.Quantifiers.{position-Some}

absurd_some : (n : ℕ) → Some n ≡ None → ⊥
absurd_some n e = cc

module _ {X : Type 0} (p : X → Bool) where
  -- the element at an index passes, and none before it does
  pub record IsFirstAt (xs : List X) (i : ℕ) (d : X) : Type 0 where
    pub within : i < length xs
    pub passes : p (get_or xs i d) ≡ true
    pub before : (k : ℕ) → k < i → p (get_or xs k d) ≡ false

  tail_first : (x : X) (xs : List X) (i : ℕ) (d : X) → IsFirstAt (x ∷ xs) (suc i) d → IsFirstAt xs i d
  tail_first x xs i d first = record {
    within = let h = first.within in omega arith;
    passes = first.passes;
    before = λ k h. first.before (suc k) (omega arith);
  }

  pub find_at : (xs : List X) (i : ℕ) (d : X) → IsFirstAt xs i d → find p xs ≡ Some (get_or xs i d)
  find_at [] i d first = let h = first.within in absurd (omega arith)
  find_at (x ∷ xs) zero d first = rw first.passes refl
  find_at (x ∷ xs) (suc i) d first =
      let not_here : p x ≡ false = first.before 0 (omega arith) in
      rw not_here (find_at xs i d (tail_first x xs i d first))

  pub find_changed : (xs : List X) (i : ℕ) (d y : X) → IsFirstAt xs i d → p y ≡ true → find p (set xs i y) ≡ Some y
  find_changed [] i d y first is = let h = first.within in absurd (omega arith)
  find_changed (x ∷ xs) zero d y first is = rw is refl
  find_changed (x ∷ xs) (suc i) d y first is =
      let not_here : p x ≡ false = first.before 0 (omega arith) in
      rw not_here (find_changed xs i d y (tail_first x xs i d first) is)

  pub find_elsewhere : (xs : List X) (i : ℕ) (d y : X) → p (get_or xs i d) ≡ false → p y ≡ false → find p (set xs i y) ≡ find p xs
  find_elsewhere [] i d y old new = refl
  find_elsewhere (x ∷ xs) zero d y old new = rw (old, new) refl
  find_elsewhere (x ∷ xs) (suc i) d y old new = ap (λ r. cond (p x) (Some x) r) (find_elsewhere xs i d y old new)

  pub find_pushed : (xs : List X) (y : X) → find p xs ≡ None → p y ≡ true → find p (xs ++ y ∷ []) ≡ Some y
  find_pushed [] y none is = rw is refl
  find_pushed (x ∷ xs) y none is =
      elim (p x) as (λ b. p x ≡ b → cond b (Some x) (find p xs) ≡ None → cond b (Some x) (find p (xs ++ y ∷ [])) ≡ Some y) [
        | true ↦ λ _ h. absurd (cc)
        | false ↦ λ _ h. find_pushed xs y h is
      ] refl none

  pub find_beside : (xs : List X) (y : X) → p y ≡ false → find p (xs ++ y ∷ []) ≡ find p xs
  find_beside [] y not_it = rw not_it refl
  find_beside (x ∷ xs) y not_it = ap (λ r. cond (p x) (Some x) r) (find_beside xs y not_it)

  none_within : (xs : List X) → length xs ≤ position_or_len p xs → find p xs ≡ None
  none_within [] h = refl
  none_within (x ∷ xs) h =
      elim (p x) as (λ b. length (x ∷ xs) ≤ cond (not b) (1 + prefix_len (λ y. not (p y)) xs) 0 → cond b (Some x) (find p xs) ≡ None) [
        | true ↦ λ g. absurd (omega arith)
        | false ↦ λ g. none_within xs (omega arith)
      ] h

  -- where there is no position, none passes
  pub none_passes : (xs : List X) → position p xs ≡ None → find p xs ≡ None
  none_passes xs none = elim (cases_lt (position_or_len p xs) (length xs)) [
    | inl lt ↦ absurd (absurd_some (position_or_len p xs) (rw ((Decides-ltb (position_or_len p xs) (length xs)).1 lt) at none))
    | inr past ↦ none_within xs past
  ]

  -- the position is that of the first
  pub first_at : (xs : List X) (i : ℕ) (d : X) → position p xs ≡ Some i → IsFirstAt xs i d
  first_at xs i d is = let h = position-Some p xs i d is in record { within = h.0; passes = h.1; before = h.2 }
