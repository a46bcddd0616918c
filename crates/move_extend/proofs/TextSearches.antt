-- A text that is among some is found there.
use Rattle.std.proofs.Common.{◌≡◌, ℕ, zero, suc, Bool, true, false, List, [], ◌∷◌, ◌||◌, map, Contains, Some, slice_get, length, ◌<◌, refl, ap, ◌∙◌, arith}
use Rattle.std.specs.Cmp.Lexicographic.{bytes_decides}
use Rattle.std.specs.List.{list_any}
use Rattle.std.specs.Str.{bytes_eq}

or_true : (b : Bool) → (b || true) ≡ true
or_true true = refl
or_true false = refl

pub among : {A : Type 0} (f : A → List ℕ) (ts : List A) (s : List ℕ) → Contains (map f ts) s → list_any (λ t. bytes_eq (f t) s) ts ≡ true
among f [] s has = absurd (omega (arith, has.1))
among f (t ∷ ts) s (zero, below, is) = ap (λ b. b || list_any (λ u. bytes_eq (f u) s) ts) ((bytes_decides (f t) s).1 is)
among f (t ∷ ts) s (suc i, below, is) =
    ap (λ b. bytes_eq (f t) s || b) (among f ts s (i, omega (arith, below), is)) ∙ or_true (bytes_eq (f t) s)

-- so is one that passes a test
pub any_of : {A : Type 0} (f : A → List ℕ) (test : List ℕ → Bool) (ts : List A) (s : List ℕ) → Contains (map f ts) s → test s ≡ true → list_any (λ t. test (f t)) ts ≡ true
any_of f test [] s has passes = absurd (omega (arith, has.1))
any_of f test (t ∷ ts) s (zero, below, is) passes = ap (λ b. b || list_any (λ u. test (f u)) ts) (ap test is ∙ passes)
any_of f test (t ∷ ts) s (suc i, below, is) passes =
    ap (λ b. test (f t) || b) (any_of f test ts s (i, omega (arith, below), is) passes) ∙ or_true (test (f t))

-- one text is among itself alone
pub alone : (t s : List ℕ) → Contains (t ∷ []) s → t ≡ s
alone t s (zero, below, is) = is
alone t s (suc i, below, is) = absurd (omega (arith, below))

-- an item stands below the length
pub within : {A : Type 0} (xs : List A) (i : ℕ) (a : A) → slice_get xs i ≡ Some a → i < length xs
within [] i a at = absurd cc
within (x ∷ xs) zero a at = omega arith
within (x ∷ xs) (suc i) a at = let rest = within xs i a at in omega (arith, rest)
