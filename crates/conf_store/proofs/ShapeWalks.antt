-- Loops that look at one item after the other.
use Rattle.std.proofs.Common.{◌≡◌, ◌<◌, ◌≤◌, ℕ, zero, suc, true, false, Bool, ◌&&◌, List, [], ◌∷◌, map, take, length, get_or, Some, refl, sym, ap, ◌∙◌, arith}
use Rattle.std.proofs.lemmas.Bool.{and_parts, and_from}
use Rattle.std.specs.List.{list_all, slice_get}

module _ {A : Type 0} (p : A → Bool) where
  -- one that fails
  pub fails_at : (xs : List A) (i : ℕ) (x : A) → slice_get xs i ≡ Some x → p x ≡ false → list_all p xs ≡ false
  fails_at [] i x e isnt = absurd cc
  fails_at (y ∷ xs) zero x e isnt = let same : y ≡ x = cc in ap (λ b. b && list_all p xs) (ap p same ∙ isnt)
  fails_at (y ∷ xs) (suc i) x e isnt = by (p y) (list_all p xs) (fails_at xs i x e isnt)
    where
      by : (b c : Bool) → c ≡ false → (b && c) ≡ false
      by true c later = later
      by false c later = refl

  -- one more that passes
  pub passes_at : (xs : List A) (i : ℕ) (x : A) → slice_get xs i ≡ Some x → p x ≡ true → list_all p (take i xs) ≡ true → list_all p (take (suc i) xs) ≡ true
  passes_at [] i x e is all = absurd cc
  passes_at (y ∷ xs) zero x e is all = let same : y ≡ x = cc in and_from _ _ (ap p same ∙ is) refl
  passes_at (y ∷ xs) (suc i) x e is all = and_from _ _ (and_parts _ _ all).0 (passes_at xs i x e is (and_parts _ _ all).1)

  -- all of them
  pub all_pass : (xs : List A) (i : ℕ) → length xs ≤ i → list_all p (take i xs) ≡ true → list_all p xs ≡ true
  all_pass [] i past all = refl
  all_pass (x ∷ xs) zero past all = absurd (omega (arith, past))
  all_pass (x ∷ xs) (suc i) past all = and_from _ _ (and_parts _ _ all).0 (all_pass xs i (omega (arith, past)) (and_parts _ _ all).1)

-- both halves of a pair
pub pair_at : {A B : Type 0} (ps : List (A × B)) (i : ℕ) (a : A) (b : B) → slice_get (map (λ p. p.0) ps) i ≡ Some a → slice_get (map (λ p. p.1) ps) i ≡ Some b
    → slice_get ps i ≡ Some (a, b)
pair_at [] i a b e f = absurd cc
pair_at (p ∷ ps) zero a b e f =
    let one : p.0 ≡ a = cc in
    let two : p.1 ≡ b = cc in
    λ i. Some (one i, two i)
pair_at (p ∷ ps) (suc i) a b e f = pair_at ps i a b e f

-- the item at an index below the length
pub get_at : {A : Type 0} (xs : List A) (i : ℕ) (x : A) → i < length xs → x ≡ get_or xs i x → slice_get xs i ≡ Some x
get_at [] i x lt e = absurd (omega (arith, lt))
get_at (y ∷ xs) zero x lt e = ap (λ z. Some z) (sym e)
get_at (y ∷ xs) (suc i) x lt e = get_at xs i x (omega (arith, lt)) e

pub map_at : {A B : Type 0} (f : A → B) (xs : List A) (i : ℕ) (x : A) → slice_get xs i ≡ Some x → slice_get (map f xs) i ≡ Some (f x)
map_at f [] i x e = absurd cc
map_at f (y ∷ xs) zero x e = let same : y ≡ x = cc in ap (λ z. Some (f z)) same
map_at f (y ∷ xs) (suc i) x e = map_at f xs i x e
