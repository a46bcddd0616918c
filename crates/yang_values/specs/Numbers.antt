-- Numbers in lengths and ranges (RFC 7950, section 14, `integer-value`).
use Rattle.std.specs.Prelude.{ℕ, ℤ, pos, negsuc, neg_ℤ, nat_le, ◌==◌, ◌&&◌, not, Bool, false, List, [], ◌∷◌, Option, Some, None, if◌then◌else◌}
use Rattle.std.specs.List.{list_all}
use Rattle.host_core.specs.Characters.{digit_zero, hyphen}
use Rattle.yang_scope.specs.Identifiers.{is_digit}
use Rattle.yang_types.specs.Numbers.{decimal}
use Rattle.yang_values.specs.Limits.{greatest_size}

-- one or more digits, the first of several not zero
abbrev pub is_decimal : List ℕ → Bool
is_decimal [] = false
is_decimal (c ∷ []) = is_digit c
is_decimal (c ∷ d ∷ cs) = is_digit c && (not (c == digit_zero) && list_all is_digit (d ∷ cs))

-- a decimal, or one behind a minus
abbrev pub is_integer : List ℕ → Bool
is_integer [] = false
is_integer (c ∷ cs) = if c == hyphen then is_decimal cs else is_decimal (c ∷ cs)

-- the number that an integer is
abbrev pub integer_value : List ℕ → ℤ
integer_value [] = pos 0
integer_value (c ∷ cs) =
    if c == hyphen then neg_ℤ (pos (decimal cs))
    else pos (decimal (c ∷ cs))

-- a number of 128 bits
abbrev pub is_narrow : ℤ → Bool
is_narrow (pos n) = nat_le n greatest_size
is_narrow (negsuc n) = nat_le n greatest_size

-- the number that a text is, where it is an integer that has room
abbrev pub bound_number : List ℕ → Option ℤ
bound_number s =
    if is_integer s && is_narrow (integer_value s) then Some (integer_value s)
    else None
