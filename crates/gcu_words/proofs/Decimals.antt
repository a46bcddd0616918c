-- The numbers that digits write.
use Rattle.std.specs.Prelude.{◌≡◌, ◌≢◌, ℕ, ◌+◌, ◌<◌, ◌≤◌, Bool, true, false, ◌&&◌, nat_le, List, [], ◌∷◌, length, fold, Option, Some, None, IfSome, cond}
use Rattle.std.proofs.Common.{refl, sym, ap, subst, get_or, drop, arith}
use Rattle.std.proofs.lemmas.List.{drop_more}
use Rattle.std.proofs.lemmas.Bool.{and_parts}
use borrow.Author.Tests.{leb-true}
use Rattle.std.specs.Char.{is_ascii_digit}
use Rattle.std.specs.List.{list_all}
use Rattle.host_core.specs.Characters.{digit_zero}
use Rattle.patch_core.specs.Indexes.{number, with_digit}
use Rattle.patch_core.proofs.Numbers.{fold_grows}
use Rattle.gcu_words.specs.Decimals.{number_within}

-- with digits that aren't read yet it is no smaller
pub greater : (digits : List ℕ) (i n : ℕ) → i < length digits → fold with_digit n (drop i digits) ≡ number digits → with_digit n (get_or digits i 0) ≤ number digits
greater digits i n lt e =
    let d = get_or digits i 0 in
    let step : fold with_digit n (drop i digits) ≡ fold with_digit (with_digit n d) (drop (i + 1) digits) = ap (fold with_digit n) (drop_more digits i 0 lt) in
    omega (arith, step, e, fold_grows (with_digit n d) (drop (i + 1) digits))

and_false : (b : Bool) → (b && false) ≡ false
and_false true = refl
and_false false = refl

-- a number that is too large is none
pub too_large : (most : ℕ) (digits : List ℕ) → most < number digits → None ≡ number_within most digits
too_large most digits more =
    elim (nat_le (number digits) most) as (λ b. nat_le (number digits) most ≡ b → None ≡ cond (list_all is_ascii_digit digits && b) (Some (number digits)) None) [
      | true ↦ λ e. absurd (let le = leb-true _ _ e in omega arith)
      | false ↦ λ e. ap (λ c. cond c (Some (number digits)) None) (sym (and_false (list_all is_ascii_digit digits)))
    ] refl

first_counts : (d : ℕ) (ds : List ℕ) → is_ascii_digit d ≡ true → d ≢ digit_zero → 0 < number (d ∷ ds)
first_counts d ds digit other =
    let low = leb-true 48 d (and_parts (nat_le 48 d) (nat_le d 57) digit).0 in
    let some : 0 < with_digit 0 d = omega arith in
    omega (arith, some, fold_grows (with_digit 0 d) ds)

-- without a leading zero it isn't 0
pub counts : (most : ℕ) (digits : List ℕ) (r : Option ℕ) → r ≡ number_within most digits → 0 < length digits → get_or digits 0 0 ≢ digit_zero → IfSome r (λ n. 0 < n)
counts most [] r is some other = absurd (omega arith)
counts most (d ∷ ds) r is some other =
    subst (λ o. IfSome o (λ n. 0 < n)) (sym is)
    (elim (list_all is_ascii_digit (d ∷ ds) && nat_le (number (d ∷ ds)) most) as
    (λ b. (list_all is_ascii_digit (d ∷ ds) && nat_le (number (d ∷ ds)) most) ≡ b → IfSome (cond b (Some (number (d ∷ ds))) None) (λ n. 0 < n)) [
      | true ↦ λ e. first_counts d ds (and_parts (is_ascii_digit d) (list_all is_ascii_digit ds) (and_parts (list_all is_ascii_digit (d ∷ ds)) (nat_le (number (d ∷ ds)) most) e).0).0 other
      | false ↦ λ e. tt
    ] refl)
