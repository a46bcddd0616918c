-- What words stand for: names, literals and numbers (XPath 1.0, section 3.7, in a profile).
use Rattle.std.specs.Prelude.{ℕ, ◌+◌, ◌-◌, ◌*◌, ◌==◌, ◌&&◌, ◌||◌, Bool, List, [], ◌∷◌, length, nat_le, Option, Some, None, option_map, if◌then◌else◌}
use Rattle.std.specs.Str.{is_utf8}
use Rattle.host_core.specs.Characters.{capital_a, capital_z, carriage_return, decimal_base, digit_nine, digit_zero, full_stop, hyphen, letter_a, letter_z, line_feed, space, tab, underscore}
use Rattle.xpath_part.specs.declared.symbols.Token.{Token}
use Rattle.xpath_part.specs.declared.symbols.Token.TheVariants.{Name, Literal, Number}

-- space, tab, line feed and carriage return
abbrev pub is_blank : ℕ → Bool
is_blank b = b == space || b == tab || b == line_feed || b == carriage_return

-- `0` to `9`
abbrev pub is_digit : ℕ → Bool
is_digit b = nat_le digit_zero b && nat_le b digit_nine

-- a letter or `_`
abbrev pub is_name_start : ℕ → Bool
is_name_start b =
    (nat_le letter_a b && nat_le b letter_z)
    || (nat_le capital_a b && nat_le b capital_z) || b == underscore

-- a letter, a digit, `_`, `-` or `.`
abbrev pub is_name_byte : ℕ → Bool
is_name_byte b = is_name_start b || is_digit b || b == hyphen || b == full_stop

-- a text is valid UTF-8
abbrev pub text_of : List ℕ → Option (List ℕ)
text_of s = if is_utf8 s then Some s else None

-- a name without prefix, where it is valid UTF-8
abbrev pub name_token : List ℕ → Option Token
name_token s = option_map (λ n. Name None n) (text_of s)

-- a name with a prefix
abbrev pub prefixed_token : List ℕ → List ℕ → Option Token
prefixed_token p s = if is_utf8 p && is_utf8 s then Some (Name (Some p) s) else None

-- a literal
abbrev pub literal_token : List ℕ → Option Token
literal_token s = option_map (λ t. Literal t) (text_of s)

-- the number that decimal digits write behind others
abbrev pub digits_value : ℕ → List ℕ → Option ℕ
digits_value n [] = Some n
digits_value n (d ∷ ds) =
    if is_digit d then digits_value (n * decimal_base + (d - digit_zero)) ds else None

-- how many digits a number has at most
abbrev pub most_digits : ℕ
most_digits = 9

-- of one to nine digits
abbrev pub number_of : List ℕ → Option ℕ
number_of ds = if nat_le (length ds) most_digits then digits_value 0 ds else None

-- a number
abbrev pub number_token : List ℕ → Option Token
number_token ds = option_map (λ n. Number n) (number_of ds)
