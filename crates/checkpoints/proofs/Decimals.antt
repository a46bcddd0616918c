-- The number that a text is in decimal.
use Rattle.std.proofs.Common.{◌≡◌, ℕ, ◌≤◌, List, true, false, ◌&&◌, cond, nat_le, Some, None, Result, Ok, Err, refl, sym, ap, ◌∙◌, arith}
use Rattle.std.proofs.lemmas.Bool.{and_from, and_parts, le-leb, leb-true}
use Rattle.std.proofs.lemmas.Fmt.{decimal_is_IsNumeral, parse-decimal}
use Rattle.std.specs.Cmp.Lexicographic.{bytes_decides}
use Rattle.std.specs.Prelude.{bytes_eq, decimal}
use Rattle.std.specs.Str.Parse.{ParsesUnsigned, digits_value}
use Rattle.checkpoints.specs.Formats.{greatest_number, if_decimal, number_of}

both_so : (n : ℕ) (digits : List ℕ) → n ≤ greatest_number → decimal n ≡ digits → if_decimal n digits ≡ Some n
both_so n digits most is =
    ap (λ b. cond b (Some n) None)
    (and_from (nat_le n greatest_number) (bytes_eq (decimal n) digits) (le-leb n greatest_number most) ((bytes_decides (decimal n) digits).1 is))

value_is : (n : ℕ) (digits : List ℕ) → n ≤ greatest_number → decimal n ≡ digits → digits_value 10 digits ≡ n
value_is n digits most is = ap (digits_value 10) (sym is) ∙ (decimal_is_IsNumeral n (omega arith)).1

-- a text that is the decimal of a number is that number
pub number_is : (n : ℕ) (digits : List ℕ) → n ≤ greatest_number → decimal n ≡ digits → number_of digits ≡ Some n
number_is n digits most is = ap (λ m. if_decimal m digits) (value_is n digits most is) ∙ both_so n digits most is

-- a text is no number, or is parsed as that number
parsed_or_none : {E : Type 0} (digits : List ℕ) (r : Result ℕ E) → ParsesUnsigned 32 10 digits r → (r ≡ Ok (digits_value 10 digits) → decimal (digits_value 10 digits) ≡ digits → ⊥) → number_of digits ≡ None
parsed_or_none digits r parses other =
    let m = digits_value 10 digits in
    elim (nat_le m greatest_number && bytes_eq (decimal m) digits) as
    (λ b. (nat_le m greatest_number && bytes_eq (decimal m) digits) ≡ b → cond b (Some m) None ≡ None) [
      | true ↦ λ is.
          let two = and_parts (nat_le m greatest_number) (bytes_eq (decimal m) digits) is in
          let most : m ≤ greatest_number = leb-true m greatest_number two.0 in
          let text : decimal m ≡ digits = (bytes_decides (decimal m) digits).0 two.1 in
          absurd (other (parse-decimal 32 m digits r (omega arith) (omega arith) (sym text) parses) text)
      | false ↦ λ isnt. refl
    ] refl

pub not_parsed : {E : Type 0} (digits : List ℕ) (e : E) → ParsesUnsigned 32 10 digits (Err e) → number_of digits ≡ None
not_parsed digits e parses = parsed_or_none digits (Err e) parses (λ is text. cc)

-- a parsed number is that of the text, where the text is its decimal
pub if_parsed : {E : Type 0} (digits : List ℕ) (n : ℕ) (r : Result ℕ E) → r ≡ Ok n → n ≤ greatest_number → ParsesUnsigned 32 10 digits r
    → cond (bytes_eq (decimal n) digits) (Some n) None ≡ number_of digits
if_parsed digits n r ok most parses =
    elim (bytes_eq (decimal n) digits) as (λ b. bytes_eq (decimal n) digits ≡ b → cond b (Some n) None ≡ number_of digits) [
      | true ↦ λ is. sym (number_is n digits most ((bytes_decides (decimal n) digits).0 is))
      | false ↦ λ isnt. sym (parsed_or_none digits r parses (λ same text.
          let parsed : Ok n ≡ Ok (digits_value 10 digits) = sym ok ∙ same in
          let one : n ≡ digits_value 10 digits = cc in
          let is : bytes_eq (decimal n) digits ≡ true = (bytes_decides (decimal n) digits).1 (ap decimal one ∙ text) in
          absurd cc))
    ] refl
