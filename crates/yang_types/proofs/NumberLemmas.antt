-- Numbers that are too wide to be read, and lengths of prefixes.
use Rattle.std.proofs.Common.{◌≢◌, ℕ, ◌<◌, List, length, get_or, inl, inr, arith}
use Rattle.std.specs.Prelude.{ℤ, FitsSigned, Err}
use Rattle.std.specs.Int.{w128}
use Rattle.std.specs.Str.Parse.{AllDigits, digits_value, ParsesUnsigned}
use Rattle.std.proofs.lemmas.Int.{ints}
use Rattle.std.proofs.lemmas.Str.Parse.{IsNumeralModel, numerals_by_value, tells_digits, digits_value_short, parse_plain}
use Rattle.yang_types.specs.declared.types.Bounds.{Bounds}
use Rattle.yang_types.specs.Numbers.{IsNumber, IsWithin, IsNumberWithin}
use Rattle.yang_types.specs.Addresses.{IsIpv6Length}

fits_between : (v : ℤ) (b : Bounds) → FitsSigned w128 b.low → FitsSigned w128 b.high → IsWithin v b → FitsSigned w128 v
fits_between v b low high (l, h) = omega (arith, ints)

-- what has no room stands within no bounds
pub none_within : (s : List ℕ) (b : Bounds) → FitsSigned w128 b.low → FitsSigned w128 b.high → ((v : ℤ) → FitsSigned w128 v → ¬ (IsNumber s v)) → ¬ (IsNumberWithin s b)
none_within s b low high unread (v, number, within) = unread v (fits_between v b low high within) number

own : IsNumeralModel (AllDigits 10) (digits_value 10)
own = numerals_by_value (AllDigits 10) tells_digits

-- a length that is read has at most three digits and a value below 256
pub length_read : (s : List ℕ) → IsIpv6Length s → (AllDigits 10 s × (0 < length s) × (digits_value 10 s < 256))
length_read s (digits, inl short) =
    let e : digits_value 10 s < 100 = digits_value_short own s 2 digits.1 short in
    (digits.1, digits.0, omega arith)
length_read s (digits, inr long) = (digits.1, digits.0, omega arith)

pub length_refused : {E : Type 0} (s : List ℕ) (e : E) → get_or s 0 0 ≢ 43 → ParsesUnsigned 8 10 s (Err e) → ¬ (IsIpv6Length s)
length_refused s e plain parses h = parse_plain own 8 s (Err e) parses plain (length_read s h)
