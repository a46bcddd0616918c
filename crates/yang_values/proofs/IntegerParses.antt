-- What an integer is parsed as.
use Rattle.std.proofs.Common.{◌≡◌, ◌==◌, ◌<◌, ◌≤◌, ◌^◌, ◌&&◌, ℕ, zero, suc, Bool, true, false, cond, List, [], ◌∷◌, length, Option, Some, None, Result, Ok, Err, refl, sym, ap, ◌∙◌, arith}
use Rattle.std.specs.Prelude.{ℤ, pos, neg_ℤ}
use Rattle.std.specs.Int.{w128}
use Rattle.std.specs.List.{list_all}
use Rattle.std.specs.Result.{result_ok, OkIff}
use Rattle.std.specs.Str.Parse.{ParsesSigned, digits_value}
use Rattle.std.proofs.lemmas.Bool.Decides.{nat_tests}
use Rattle.std.proofs.lemmas.Str.Parse.{IsNumeralModel, IsDigitsTest, numerals_by_value, parse_signed_minus, parse_signed_plain}
use Rattle.yang_scope.specs.Identifiers.{is_digit}
use Rattle.yang_values.specs.Numbers.{is_decimal, is_integer, integer_value, is_narrow, bound_number}

abbrev AreDigits : List ℕ → Type 0
AreDigits ds = list_all is_digit ds ≡ true

tells : IsDigitsTest AreDigits
tells = record {
  empty = refl;
  parts = λ c cs h. grind (arith, nat_tests);
  more = λ c cs range h. grind (arith, nat_tests);
}

own : IsNumeralModel AreDigits (digits_value 10)
own = numerals_by_value AreDigits tells

decimal_digits : (ds : List ℕ) → is_decimal ds ≡ true → AreDigits ds × (0 < length ds)
decimal_digits [] h = absurd (grind arith)
decimal_digits (c ∷ []) h = (grind (arith, nat_tests), omega arith)
decimal_digits (c ∷ d ∷ cs) h = (grind (arith, nat_tests), omega arith)

first_digit : (c : ℕ) (cs : List ℕ) → is_decimal (c ∷ cs) ≡ true → is_digit c ≡ true
first_digit c [] h = grind (arith, nat_tests)
first_digit c (d ∷ cs) h = grind (arith, nat_tests)

negative_narrow : (v : ℕ) (b : Bool) → b ≡ is_narrow (neg_ℤ (pos v)) → (v ≤ 2 ^ 127 → b ≡ true) × (b ≡ true → v ≤ 2 ^ 127)
negative_narrow zero b is = (λ h. grind (arith, nat_tests), λ h. omega arith)
negative_narrow (suc v) b is = (λ h. grind (arith, nat_tests), λ h. grind (arith, nat_tests))

positive_narrow : (v : ℕ) (b : Bool) → b ≡ is_narrow (pos v) → (v < 2 ^ 127 → b ≡ true) × (b ≡ true → v < 2 ^ 127)
positive_narrow v b is = (λ h. grind (arith, nat_tests), λ h. grind (arith, nat_tests))

read_as : {E : Type 0} (r : Result ℤ E) (A B N : Type 0) (x : ℤ) (b : Bool) → OkIff r (A × B × N) x → A → B → (N → b ≡ true) × (b ≡ true → N)
    → result_ok r ≡ cond {A = Option ℤ} b (Some x) None
read_as (Ok y) A B N x true h p q tells = ap Some h.1
read_as (Ok y) A B N x false h p q tells = absurd (grind (arith, tells.0 h.0.2))
read_as (Err e) A B N x true h p q tells = absurd (h (p, q, tells.1 refl))
read_as (Err e) A B N x false h p q tells = refl

bound_by : (s : List ℕ) (x : ℤ) → is_integer s ≡ true → integer_value s ≡ x → cond {A = Option ℤ} (is_narrow x) (Some x) None ≡ bound_number s
bound_by s x is same =
    sym (ap (λ b. cond {A = Option ℤ} (b && is_narrow (integer_value s)) (Some (integer_value s)) None) is
    ∙ ap (λ y. cond {A = Option ℤ} (is_narrow y) (Some y) None) same)

-- an integer is parsed as its value, where it has room
pub parsed : {E : Type 0} (s : List ℕ) (r : Result ℤ E) → is_integer s ≡ true → ParsesSigned w128 10 s r
    → result_ok r ≡ bound_number s
parsed [] r is h = absurd (grind arith)
parsed {E = E} (c ∷ cs) r is h = by_sign (c == 45) refl
  where
    by_sign : (b : Bool) → (c == 45) ≡ b → result_ok r ≡ bound_number (c ∷ cs)
    by_sign true e =
        let decimal : is_decimal cs ≡ true = sym (ap (λ b. cond {A = Bool} b (is_decimal cs) (is_decimal (c ∷ cs))) e) ∙ is in
        let digits : AreDigits cs × (0 < length cs) = decimal_digits cs decimal in
        let v : ℕ = digits_value 10 cs in
        read_as r _ _ _ _ _ (parse_signed_minus own w128 (c ∷ cs) r h (grind (arith, nat_tests))) digits.0 digits.1 (negative_narrow v _ refl)
        ∙ bound_by (c ∷ cs) (neg_ℤ (pos v)) is (ap (λ b. cond {A = ℤ} b (neg_ℤ (pos (digits_value 10 cs))) (pos (digits_value 10 (c ∷ cs)))) e)
    by_sign false e =
        let decimal : is_decimal (c ∷ cs) ≡ true = sym (ap (λ b. cond {A = Bool} b (is_decimal cs) (is_decimal (c ∷ cs))) e) ∙ is in
        let digits : AreDigits (c ∷ cs) × (0 < length (c ∷ cs)) = decimal_digits (c ∷ cs) decimal in
        let first : is_digit c ≡ true = first_digit c cs decimal in
        let v : ℕ = digits_value 10 (c ∷ cs) in
        read_as r _ _ _ _ _ (parse_signed_plain own w128 (c ∷ cs) r h (grind (arith, nat_tests, first)) (grind (arith, nat_tests, first))) digits.0 digits.1 (positive_narrow v _ refl)
        ∙ bound_by (c ∷ cs) (pos v) is (ap (λ b. cond {A = ℤ} b (neg_ℤ (pos (digits_value 10 cs))) (pos (digits_value 10 (c ∷ cs)))) e)
