-- The members of a map, one by one.
use Rattle.std.proofs.Common.{◌≡◌, ℕ, zero, suc, ◌<◌, List, [], ◌∷◌, map, length, get_or, slice_get, Some, refl, ap, arith}
use Rattle.conf_doc.specs.Document.{Document}

-- the pair at an index, of its name and what it names
pub pair_at : (ms : List (List ℕ × Document)) (i : ℕ) (k : List ℕ) (d : Document) → slice_get (map (λ m. m.0) ms) i ≡ Some k → slice_get (map (λ m. m.1) ms) i ≡ Some d
    → slice_get ms i ≡ Some (k, d)
pair_at [] i k d name part = absurd cc
pair_at (m ∷ ms) zero k d name part =
    let one : m.0 ≡ k = cc in
    let two : m.1 ≡ d = cc in
    λ j. Some (one j, two j)
pair_at (m ∷ ms) (suc i) k d name part = pair_at ms i k d name part

pub within : {A : Type 0} (xs : List A) (i : ℕ) (x : A) → slice_get xs i ≡ Some x → i < length xs
within [] i x is = absurd cc
within (y ∷ ys) zero x is = omega arith
within (y ∷ ys) (suc i) x is = let rest = within ys i x is in omega arith

pub item_is : {A : Type 0} (xs : List A) (i : ℕ) (x : A) → slice_get xs i ≡ Some x → x ≡ get_or xs i x
item_is [] i x is = absurd cc
item_is (y ∷ ys) zero x is = cc
item_is (y ∷ ys) (suc i) x is = item_is ys i x is

-- what members are as pairs of the same
pub themselves : (ms : List (List ℕ × Document)) → map (λ m. (m.0, m.1)) ms ≡ ms
themselves [] = refl
themselves (m ∷ ms) = ap (λ ns. m ∷ ns) (themselves ms)
