-- The elements of a list that pass a test, one more element at a time.
use Rattle.std.proofs.Common.{◌≡◌, ◌+◌, ℕ, zero, suc, List, [], ◌∷◌, ◌++◌, Option, Some, None, Bor, is_some, slice_get, map, take, add-one, refl, ap, ◌∙◌}
use Rattle.std.specs.Option.{option_copied, option_to_list}

pub some-copied : {X : Type 0} (o : Option (Bor X)) → is_some o ≡ is_some (option_copied o)
some-copied None = refl
some-copied (Some x) = refl

-- an index leads to an element just where it does so of what a function makes of them
pub some-mapped : {X Y : Type 0} (v : X → Y) (xs : List X) (i : ℕ) → is_some (slice_get xs i) ≡ is_some (slice_get (map v xs) i)
some-mapped v [] zero = refl
some-mapped v [] (suc i) = refl
some-mapped v (x ∷ xs) zero = refl
some-mapped v (x ∷ xs) (suc i) = some-mapped v xs i

take-suc-item : {X : Type 0} (xs : List X) (i : ℕ) → take (suc i) xs ≡ take i xs ++ option_to_list (slice_get xs i)
take-suc-item [] zero = refl
take-suc-item [] (suc i) = refl
take-suc-item (x ∷ xs) zero = refl
take-suc-item (x ∷ xs) (suc i) = ap (λ ys. x ∷ ys) (take-suc-item xs i)

-- the elements before an index, and that at it
pub take-item : {X : Type 0} (xs : List X) (i : ℕ) → take (i + 1) xs ≡ take i xs ++ option_to_list (slice_get xs i)
take-item xs i = ap (λ n. take n xs) (add-one i) ∙ take-suc-item xs i
