-- An index in decimal, as a token at a list.
use Rattle.std.specs.Int.Digits.{digits_of, number_from_digits, number_from_digits_after, AllBelowBase}
use Rattle.std.proofs.Common.{◌≡◌, ℕ, zero, suc, ◌+◌, ◌*◌, ◌<◌, ◌^◌, ◌==◌, List, [], ◌∷◌, length, get_or, map, fold, true, false, not, nat_le, decimal, refl, ap, ◌∙◌, arith}
use Rattle.std.proofs.lemmas.Bool.{and_from, le-leb}
use Rattle.std.proofs.lemmas.Fmt.{decimal-digits_of, decimal_digit}
use Rattle.std.proofs.lemmas.Int.Digits.{all_below_base_digits_of, first_digits_of, number_digits_of}
use Rattle.std.specs.Char.{is_ascii_digit}
use Rattle.std.specs.List.{list_all}
use Rattle.host_core.specs.Characters.{decimal_base, digit_zero, hyphen}
use Rattle.patch_core.specs.Indexes.{index, is_dash, is_index, list_token, with_digit}
use Rattle.patch_core.proofs.Numbers.{list_token_at_index}
use Rattle.move_core.specs.Operations.{index_text}

abbrev character : ℕ → ℕ
character d = digit_zero + d

digit_is : (d : ℕ) → d < decimal_base → is_ascii_digit (character d) ≡ true
digit_is d below = and_from (nat_le 48 (character d)) (nat_le (character d) 57) (le-leb _ _ (omega arith)) (le-leb _ _ (omega arith))

all_digits : (ds : List ℕ) → AllBelowBase decimal_base ds → list_all is_ascii_digit (map character ds) ≡ true
all_digits [] below = refl
all_digits (d ∷ ds) below = and_from (is_ascii_digit (character d)) _ (digit_is d below.0) (all_digits ds below.1)

one_more : (n d : ℕ) → with_digit n (character d) ≡ n * decimal_base + d
one_more n d = omega arith

number_after : (n : ℕ) (ds : List ℕ) → fold with_digit n (map character ds) ≡ number_from_digits_after decimal_base n ds
number_after n [] = refl
number_after n (d ∷ ds) = ap (λ m. fold with_digit m (map character ds)) (one_more n d) ∙ number_after (n * decimal_base + d) ds

not_dash : (ds : List ℕ) → is_dash (map character ds) ≡ false
not_dash [] = refl
not_dash (d ∷ []) = other d
  where
    other : (d : ℕ) → (character d == hyphen) ≡ false
    other d = grind arith
not_dash (d ∷ e ∷ ds) = refl

some_index : (ds : List ℕ) → AllBelowBase decimal_base ds → 0 < length ds → 0 < get_or ds 0 0 → is_index (map character ds) ≡ true
some_index [] below some first = absurd (omega arith)
some_index (d ∷ []) below some first = digit_is d below.0
some_index (d ∷ e ∷ ds) below some first =
    and_from (not (character d == digit_zero)) _ (no_zero d first) (all_digits (d ∷ e ∷ ds) below)
  where
    no_zero : (d : ℕ) → 0 < d → not (character d == digit_zero) ≡ true
    no_zero d some = grind arith

token_is : (ds : List ℕ) → AllBelowBase decimal_base ds → 0 < length ds → 0 < get_or ds 0 0 → list_token (map character ds) ≡ index (number_from_digits decimal_base ds)
token_is ds below some first =
    list_token_at_index (map character ds) (not_dash ds) (some_index ds below some first)
    ∙ ap index (number_after 0 ds)

-- the text of an index means that index at a list
pub index_token : (i : ℕ) → list_token (index_text i) ≡ index i
index_token zero = refl
index_token (suc n) =
    let first = first_digits_of decimal_base (suc n) (omega arith) (omega arith) in
    token_is (digits_of decimal_base (suc n)) (all_below_base_digits_of decimal_base (suc n) (omega arith)) (some_digits (digits_of decimal_base (suc n)) first) first
    ∙ ap index (number_digits_of decimal_base (suc n) (omega arith))
  where
    some_digits : (ds : List ℕ) → 0 < get_or ds 0 0 → 0 < length ds
    some_digits [] first = absurd (omega arith)
    some_digits (d ∷ ds) first = omega arith

-- what is written of a machine's number is the text of the index
pub written_index : (i : ℕ) → i < 2 ^ 64 → decimal i ≡ index_text i
written_index zero small = decimal_digit 0 (omega arith)
written_index (suc n) small = decimal-digits_of (suc n) (omega arith) small
