-- Decimal numbers (RFC 7950, section 9.2.1), and the bounds round them.
use Rattle.std.specs.Prelude.{◌≡◌, ◌⊎◌, ℕ, ◌≤◌, ◌≤ℤ◌, ℤ, pos, neg_ℤ, List, ◌∷◌, length, Any, slice_index}
use Rattle.std.specs.Str.Parse.{IsNumeral, digits_value}
use Rattle.host_core.specs.Characters.{decimal_base, digit_zero, hyphen, plus}
use Rattle.yang_types.specs.declared.types.Bounds.{Bounds}

-- one or more decimal digits
abbrev pub IsDecimal : List ℕ → Type 0
IsDecimal digits = IsNumeral decimal_base digits

-- the number that the digits write, however many they are
abbrev pub decimal : List ℕ → ℕ
decimal digits = digits_value decimal_base digits

-- the sign before the digits, if any, and the number that they make
abbrev pub HasSign : List ℕ → List ℕ → ℤ → Type 0
HasSign s digits value =
    ((s ≡ digits) × (value ≡ pos (decimal digits)))
    ⊎ ((s ≡ plus ∷ digits) × (value ≡ pos (decimal digits)))
    ⊎ ((s ≡ hyphen ∷ digits) × (value ≡ neg_ℤ (pos (decimal digits))))

-- a text that is a number: an optional sign and one or more digits
abbrev pub IsNumber : List ℕ → ℤ → Type 0
IsNumber s value = (digits : List ℕ) × IsDecimal digits × HasSign s digits value

-- a value from the lower to the higher bound
abbrev pub IsWithin : ℤ → Bounds → Type 0
IsWithin value bounds = (bounds.low ≤ℤ value) × (value ≤ℤ bounds.high)

-- a value within some part of a range or a length (RFC 7950, sections 9.2.4 and 9.4.4)
abbrev pub IsWithinAny : ℤ → List Bounds → Type 0
IsWithinAny value parts = Any (IsWithin value) parts

-- a number within the bounds
abbrev pub IsNumberWithin : List ℕ → Bounds → Type 0
IsNumberWithin s bounds = (value : ℤ) × IsNumber s value × IsWithin value bounds

-- a number within some part
abbrev pub IsNumberWithinAny : List ℕ → List Bounds → Type 0
IsNumberWithinAny s parts = Any (IsNumberWithin s) parts

-- a number without sign and leading zeros, of at most `most`
abbrev pub IsPlainNumber : ℕ → List ℕ → Type 0
IsPlainNumber most s =
    IsDecimal s × (slice_index s 0 ≡ digit_zero → length s ≡ 1) × (decimal s ≤ most)
