-- Identifiers (RFC 7950, section 6.2).
use Rattle.std.specs.Prelude.{ℕ, ◌==◌, ◌&&◌, ◌||◌, nat_le, Bool, false, List, [], ◌∷◌}
use Rattle.std.specs.List.{list_all}
use Rattle.host_core.specs.Characters.{capital_a, capital_z, digit_nine, digit_zero, full_stop, hyphen, letter_a, letter_z, underscore}

-- a character in a range
abbrev pub is_between : ℕ → ℕ → ℕ → Bool
is_between low high c = nat_le low c && nat_le c high

-- an ASCII letter
abbrev pub is_letter : ℕ → Bool
is_letter c = is_between capital_a capital_z c || is_between letter_a letter_z c

-- an ASCII digit
abbrev pub is_digit : ℕ → Bool
is_digit c = is_between digit_zero digit_nine c

-- a letter or `_`
abbrev pub begins_identifier : ℕ → Bool
begins_identifier c = is_letter c || c == underscore

-- letters, digits, `_`, `-` and `.`
abbrev pub continues_identifier : ℕ → Bool
continues_identifier c = begins_identifier c || is_digit c || c == hyphen || c == full_stop

-- RFC 7950, section 6.2
abbrev pub is_identifier : List ℕ → Bool
is_identifier [] = false
is_identifier (c ∷ cs) = begins_identifier c && list_all continues_identifier cs
