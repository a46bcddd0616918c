-- Index tokens: which they are, and the numbers they write.
use Rattle.std.specs.Prelude.{◌≡◌, ◌≢◌, ℕ, ◌+◌, ◌<◌, ◌≤◌, Bool, true, false, ◌&&◌, ◌==◌, not, List, [], ◌∷◌, length, fold}
use Rattle.std.proofs.Common.{refl, sym, ap, get_or, drop, arith}
use Rattle.std.proofs.lemmas.List.{drop_more}
use Rattle.std.proofs.lemmas.Bool.{ne_eqb}
use Rattle.std.specs.List.{list_all}
use Rattle.std.specs.Char.{is_ascii_digit}
use Rattle.host_core.specs.Characters.{digit_zero}
use Rattle.patch_core.specs.Indexes.{index, is_dash, is_index, number, list_token, with_digit}

and_true : (b : Bool) → (b && true) ≡ b
and_true true = refl
and_true false = refl

-- digits that don't begin with a 0 are an index
pub is_index_from_digits : (token : List ℕ) → 1 ≤ length token → get_or token 0 0 ≢ digit_zero → list_all is_ascii_digit token ≡ is_index token
is_index_from_digits [] some first = absurd (omega arith)
is_index_from_digits (d ∷ []) some first = and_true (is_ascii_digit d)
is_index_from_digits (d ∷ e ∷ ds) some first = let k : (d == digit_zero) ≡ false = ne_eqb d digit_zero first in ap (λ (b : Bool). not b && list_all is_ascii_digit (d ∷ e ∷ ds)) (sym k)

pub fold_grows : (n : ℕ) (ds : List ℕ) → n ≤ fold with_digit n ds
fold_grows n [] = omega arith
fold_grows n (d ∷ ds) = omega (arith, fold_grows (with_digit n d) ds)

-- a number whose first digits are too large is too large
pub too_large : (digits : List ℕ) (i n limit : ℕ) → i < length digits → fold with_digit n (drop i digits) ≡ number digits → limit ≤ with_digit n (get_or digits i 0) → limit ≤ number digits
too_large digits i n limit lt e h =
    let d = get_or digits i 0 in
    let step : fold with_digit n (drop i digits) ≡ fold with_digit (with_digit n d) (drop (i + 1) digits) = ap (fold with_digit n) (drop_more digits i 0 lt) in
    omega (arith, step, e, fold_grows (with_digit n d) (drop (i + 1) digits))

pub list_token_at_index : (token : List ℕ) → is_dash token ≡ false → is_index token ≡ true → list_token token ≡ index (number token)
list_token_at_index token d i = rw (d, i) refl
