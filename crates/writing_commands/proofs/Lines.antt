-- Texts line by line: two texts that begin with whole lines have the same lines.
use Rattle.std.proofs.Common.{◌≡◌, ◌≢◌, ℕ, zero, suc, ◌+◌, ◌/◌, ◌%◌, List, [], ◌∷◌, ◌++◌, true, false, cond, refl, arith}
use Rattle.std.specs.Prelude.{nat_lt, ◌==◌}
use Rattle.std.specs.Fmt.{decimal, digits, digits_onto, digit_glyph}

-- no byte of it ends a line
abbrev pub IsOneLine : List ℕ → Type 0
IsOneLine [] = Unit {0}
IsOneLine (b ∷ bs) = (b ≢ 10) × IsOneLine bs

pub one_line-append : (a b : List ℕ) → IsOneLine a → IsOneLine b → IsOneLine (a ++ b)
one_line-append [] b ha hb = hb
one_line-append (x ∷ a) b ha hb = (ha.0, one_line-append a b ha.1 hb)

-- where two texts begin with a line and its end, that is the same line, and so is what follows
pub first_lines : (a b x y : List ℕ) → IsOneLine a → IsOneLine b → a ++ 10 ∷ x ≡ b ++ 10 ∷ y
    → (a ≡ b) × (x ≡ y)
first_lines [] [] x y ha hb e = let rest : x ≡ y = cc in (refl, rest)
first_lines [] (d ∷ b) x y ha hb e = let first : d ≡ 10 = cc in absurd (hb.0 first)
first_lines (c ∷ a) [] x y ha hb e = let first : c ≡ 10 = cc in absurd (ha.0 first)
first_lines (c ∷ a) (d ∷ b) x y ha hb e =
    let first : c ≡ d = cc in
    let rest : a ++ 10 ∷ x ≡ b ++ 10 ∷ y = cc in
    let both = first_lines a b x y ha.1 hb.1 rest in
    let line : a ≡ b = both.0 in
    let same : c ∷ a ≡ d ∷ b = cc in
    (same, both.1)

-- ---- numbers

glyph_is_no_end : (d : ℕ) → digit_glyph false d ≢ 10
glyph_is_no_end d e = elim (nat_lt d 10) as (λ b. cond b (48 + d) (87 + d) ≡ 10 → ⊥)
    [ true ↦ λ h. absurd (omega (arith, h)) | false ↦ λ h. absurd (omega (arith, h)) ] e

onto_is_one_line : (k n : ℕ) (acc : List ℕ) → IsOneLine acc → IsOneLine (digits_onto k 10 false n acc)
onto_is_one_line zero n acc h = h
onto_is_one_line (suc k) n acc h =
    let more : IsOneLine (digit_glyph false (n % 10) ∷ acc) = (glyph_is_no_end (n % 10), h) in
    elim (n / 10 == 0)
    as (λ b. IsOneLine (cond b (digit_glyph false (n % 10) ∷ acc)
    (digits_onto k 10 false (n / 10) (digit_glyph false (n % 10) ∷ acc))))
    [ true ↦ more | false ↦ onto_is_one_line k (n / 10) (digit_glyph false (n % 10) ∷ acc) more ]

pub decimal_is_one_line : (n : ℕ) → IsOneLine (decimal n)
unfolding digits
decimal_is_one_line n = onto_is_one_line 64 n [] tt
