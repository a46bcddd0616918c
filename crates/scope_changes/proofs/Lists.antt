-- What holds of each item of a list, of lists put together and of the items one by one.
use Rattle.std.proofs.Common.{◌≡◌, ℕ, zero, suc, List, [], ◌∷◌, ◌++◌, length, take, drop, Some, refl, ap, ◌∙◌, arith, append-nil}
use Rattle.std.specs.Prelude.{flat_map, slice_get}
use Rattle.std.specs.List.{AllByRecursion}
use Rattle.std.proofs.lemmas.List.Concat.{flat_map-append}

module _ {X : Type 0} where
  pub each : (P Q : X → Type 0) → ((x : X) → P x → Q x) → (xs : List X) → AllByRecursion P xs → AllByRecursion Q xs
  each P Q gives [] all = tt
  each P Q gives (x ∷ xs) all = (gives x all.0, each P Q gives xs all.1)

  -- two that hold of each
  pub both : (P Q R : X → Type 0) → ((x : X) → P x → Q x → R x) → (xs : List X) → AllByRecursion P xs → AllByRecursion Q xs → AllByRecursion R xs
  both P Q R gives [] all other = tt
  both P Q R gives (x ∷ xs) all other = (gives x all.0 other.0, both P Q R gives xs all.1 other.1)

  -- one more at the end
  pub one_more : (P : X → Type 0) (xs : List X) (x : X) → AllByRecursion P xs → P x → AllByRecursion P (xs ++ x ∷ [])
  one_more P [] x all at = (at, tt)
  one_more P (y ∷ xs) x all at = (all.0, one_more P xs x all.1 at)

  -- those before one, and it
  pub front_of_all : (P : X → Type 0) (xs ys : List X) (x : X) → AllByRecursion P (xs ++ x ∷ ys) → AllByRecursion P xs × P x
  front_of_all P [] ys x all = (tt, all.0)
  front_of_all P (y ∷ xs) ys x all = let rest = front_of_all P xs ys x all.1 in ((all.0, rest.0), rest.1)

  pub flat_map_more : {A : Type 0} (f : X → List A) (xs : List X) (x : X) → flat_map f (xs ++ x ∷ []) ≡ flat_map f xs ++ f x
  flat_map_more {A} f xs x = flat_map-append f xs (x ∷ []) ∙ ap (λ (l : List A). flat_map f xs ++ l) (append-nil (f x))

  -- the item at a place parts a list
  pub take_at : (xs : List X) (k : ℕ) (x : X) → slice_get xs k ≡ Some x → take (suc k) xs ≡ take k xs ++ x ∷ []
  take_at [] k x is = absurd cc
  take_at (y ∷ xs) zero x is = let same : y ≡ x = cc in ap (λ (z : X). z ∷ []) same
  take_at (y ∷ xs) (suc k) x is = ap (λ (l : List X). y ∷ l) (take_at xs k x is)

  pub drop_at : (xs : List X) (k : ℕ) (x : X) → slice_get xs k ≡ Some x → drop k xs ≡ x ∷ drop (suc k) xs
  drop_at [] k x is = absurd cc
  drop_at (y ∷ xs) zero x is = let same : y ≡ x = cc in ap (λ (z : X). z ∷ xs) same
  drop_at (y ∷ xs) (suc k) x is = drop_at xs k x is

  pub take_and_drop : (xs : List X) (k : ℕ) → xs ≡ take k xs ++ drop k xs
  take_and_drop [] zero = refl
  take_and_drop [] (suc k) = refl
  take_and_drop (x ∷ xs) zero = refl
  take_and_drop (x ∷ xs) (suc k) = ap (λ (l : List X). x ∷ l) (take_and_drop xs k)

  pub all_taken : (xs : List X) (k : ℕ) → k ≡ length xs → take k xs ≡ xs
  all_taken [] zero is = refl
  all_taken [] (suc k) is = refl
  all_taken (x ∷ xs) zero is = absurd (omega arith)
  all_taken (x ∷ xs) (suc k) is = ap (λ (l : List X). x ∷ l) (all_taken xs k (omega arith))

  pub none_left : (xs : List X) (k : ℕ) → k ≡ length xs → drop k xs ≡ []
  none_left [] zero is = refl
  none_left [] (suc k) is = refl
  none_left (x ∷ xs) zero is = absurd (omega arith)
  none_left (x ∷ xs) (suc k) is = none_left xs k (omega arith)
