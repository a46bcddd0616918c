-- The names of step files: how long they are, and that two numbers have two names.
use Rattle.std.proofs.Common.{◌≡◌, ◌<◌, ◌≤◌, ℕ, zero, suc, ◌+◌, ◌*◌, ◌/◌, ◌%◌, List, [], ◌∷◌, ◌++◌, length, drop, length-append, refl, ap, arith}
use Rattle.host_core.specs.Characters.{decimal_base}
use Rattle.conf_store.specs.Files.{last_digits, last_step, step_name}

pub length-digits : (k n : ℕ) → length (last_digits k n) ≡ k
length-digits zero n = refl
length-digits (suc k) n = omega (arith, length-append (last_digits k (n / decimal_base)) ((48 + n % decimal_base) ∷ []), length-digits k (n / decimal_base))

pub length-step_name : (n : ℕ) → length (step_name n) ≡ 11
length-step_name n = omega (arith, length-digits 6 n)

-- how many numbers so many digits write
abbrev numbers : ℕ → ℕ
numbers zero = 1
numbers (suc k) = decimal_base * numbers k

snoc_same : (xs ys : List ℕ) (a b : ℕ) → length xs ≡ length ys → xs ++ a ∷ [] ≡ ys ++ b ∷ [] → (xs ≡ ys) × (a ≡ b)
snoc_same [] [] a b long e = (refl, cc)
snoc_same [] (y ∷ ys) a b long e = absurd (omega (arith, long))
snoc_same (x ∷ xs) [] a b long e = absurd (omega (arith, long))
snoc_same (x ∷ xs) (y ∷ ys) a b long e =
    let first : x ≡ y = cc in
    let more : xs ++ a ∷ [] ≡ ys ++ b ∷ [] = cc in
    let rest = snoc_same xs ys a b (omega (arith, long)) more in
    ((λ i. first i ∷ rest.0 i), rest.1)

digits_same : (k n m : ℕ) → n < numbers k → m < numbers k → last_digits k n ≡ last_digits k m → n ≡ m
digits_same zero n m small too e = omega (arith, small, too)
digits_same (suc k) n m small too e =
    let parts = snoc_same (last_digits k (n / decimal_base)) (last_digits k (m / decimal_base)) (48 + n % decimal_base) (48 + m % decimal_base) (omega (arith, length-digits k (n / decimal_base), length-digits k (m / decimal_base))) e in
    let front : n / decimal_base ≡ m / decimal_base = digits_same k (n / decimal_base) (m / decimal_base) (omega (arith, small)) (omega (arith, too)) parts.0 in
    omega (arith, front, parts.1)

pub names_same : (n m : ℕ) → n ≤ last_step → m ≤ last_step → step_name n ≡ step_name m → n ≡ m
unfolding last_step
names_same n m small too e = digits_same 6 n m (omega (arith, small)) (omega (arith, too)) (ap (drop 5) e)
