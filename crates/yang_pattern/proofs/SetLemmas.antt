-- One bit more in a set, and a set moved up.
use Rattle.std.proofs.Common.{◌≡◌, ℕ, ◌+◌, ◌-◌, ◌*◌, ◌/◌, ◌%◌, ◌^◌, ◌<◌, Bool, true, false, ◌||◌, ◌&&◌, eqb, ltb, leb, List, length, get_or, set, bit_or, refl, ap, inl, inr, arith, max}
use Rattle.std.specs.Int.{bit_at, w64}
use Rattle.std.proofs.lemmas.Bool.{cases_eq, cases_lt, eq-eqb, ne_eqb, lt-ltb, le-ltb, le-leb, lt-leb}
use Rattle.std.proofs.lemmas.Nat.Bits.{bit_at_set_same, bit_at_set_other, bit_at_or, bit_at-lt}
use Rattle.std.proofs.lemmas.List.{get_or-set_same, get_or-set_other}
use mir.Val.{bits}

or_false : (b : Bool) → (b || false) ≡ b
or_false true = refl
or_false false = refl

or_true : (b : Bool) → (b || true) ≡ true
or_true true = refl
or_true false = refl

-- the bit of q, after the bit of p is set
pub insert_bit : (ws : List ℕ) (p q : ℕ) → length ws ≡ 16 → p < 1024
    → eqb (bit_at (get_or (set ws (p / 64) (bit_or (get_or ws (p / 64) 0) (1 * 2 ^ (p % 64) % 2 ^ bits w64))) (q / 64) 0) (q % 64)) 1
    ≡ (eqb (bit_at (get_or ws (q / 64) 0) (q % 64)) 1 || eqb q p)
insert_bit ws p q n l =
    let word : p / 64 < length ws = omega arith in
    let within : p % 64 < bits w64 = omega arith in
    let new = bit_or (get_or ws (p / 64) 0) (1 * 2 ^ (p % 64) % 2 ^ bits w64) in
    elim (cases_eq (q / 64) (p / 64)) [
      | inl same ↦
          elim (cases_eq (q % 64) (p % 64)) [
            | inl bit ↦
                rw (eq-eqb q p (omega arith), or_true, same, bit, get_or-set_same ws (p / 64) new 0 word, bit_at_set_same w64 (get_or ws (p / 64) 0) (p % 64) within) refl
            | inr bit ↦
                rw (ne_eqb q p (λ e. bit (ap (λ x. x % 64) e)), or_false, same, get_or-set_same ws (p / 64) new 0 word, bit_at_set_other w64 (get_or ws (p / 64) 0) (p % 64) within (q % 64) bit) refl
          ]
      | inr other ↦
          rw (ne_eqb q p (λ e. other (ap (λ x. x / 64) e)), or_false, get_or-set_other ws (p / 64) (q / 64) new 0 other) refl
    ]

-- a bit of two words joined
pub or_bit : (a b i : ℕ) → eqb (bit_at (bit_or a b) i) 1 ≡ (eqb (bit_at a i) 1 || eqb (bit_at b i) 1)
or_bit a b i =
    let small_a : bit_at a i < 2 = bit_at-lt a i in
    let small_b : bit_at b i < 2 = bit_at-lt b i in
    rw (bit_at_or a b i) (elim (cases_eq (bit_at a i) 1) [
      | inl x ↦ rw (x, eq-eqb (max 1 (bit_at b i)) 1 (omega arith)) refl
      | inr x ↦
          let zero_a : bit_at a i ≡ 0 = omega arith in
          rw (zero_a, (let e : max 0 (bit_at b i) ≡ bit_at b i = omega arith in e)) refl
    ])

-- the place i is in the set
pub moved_in : (S : ℕ → Bool) (by i q : ℕ) → S i ≡ true
    → ((leb by q && (ltb (q - by) i && S (q - by))) || eqb q (i + by)) ≡ (leb by q && (ltb (q - by) (i + 1) && S (q - by)))
moved_in S by i q held =
    elim (cases_eq q (i + by)) [
      | inl e ↦
          let back : q - by ≡ i = omega arith in
          rw (eq-eqb q (i + by) e, or_true, back, held, le-leb by q (omega arith), lt-ltb i (i + 1) (omega arith)) refl
      | inr e ↦
          rw (ne_eqb q (i + by) e, or_false) (elim (cases_lt q by) [
            | inl below ↦ rw (lt-leb by q below) refl
            | inr above ↦
                elim (cases_lt (q - by) i) [
                  | inl x ↦ rw (lt-ltb (q - by) i x, lt-ltb (q - by) (i + 1) (omega arith)) refl
                  | inr x ↦ rw (le-ltb (q - by) i x, le-ltb (q - by) (i + 1) (omega arith)) refl
                ]
          ])
    ]

-- the place i is not in the set
pub moved_out : (S : ℕ → Bool) (by i q : ℕ) → S i ≡ false
    → (leb by q && (ltb (q - by) i && S (q - by))) ≡ (leb by q && (ltb (q - by) (i + 1) && S (q - by)))
moved_out S by i q held =
    elim (cases_eq (q - by) i) [
      | inl e ↦ rw (e, held, le-ltb i i (omega arith), lt-ltb i (i + 1) (omega arith)) refl
      | inr e ↦
          elim (cases_lt (q - by) i) [
            | inl x ↦ rw (lt-ltb (q - by) i x, lt-ltb (q - by) (i + 1) (omega arith)) refl
            | inr x ↦ rw (le-ltb (q - by) i x, le-ltb (q - by) (i + 1) (omega arith)) refl
          ]
    ]
