-- What a token means at a list (RFC 6901, section 4).
use Rattle.std.specs.Prelude.{ℕ, ◌+◌, ◌-◌, ◌*◌, List, [], ◌∷◌, Bool, false, not, ◌&&◌, ◌==◌, fold, if◌then◌else◌}
use Rattle.std.specs.List.{list_all}
use Rattle.std.specs.Char.{is_ascii_digit}
use Rattle.host_core.specs.Characters.{decimal_base, digit_zero, hyphen}

-- what a token names in any list
pub data ListToken : Type 0 where
  -- an item, counted from 0
  index : ℕ → ListToken
  -- `-`, behind the last item
  behind_last : ListToken
  -- nothing
  no_index : ListToken

-- `0`, or digits that don't begin with a 0
abbrev pub is_index : List ℕ → Bool
is_index [] = false
is_index (d ∷ []) = is_ascii_digit d
is_index (d ∷ e ∷ ds) = not (d == digit_zero) && list_all is_ascii_digit (d ∷ e ∷ ds)

-- a number with one more digit
abbrev pub with_digit : ℕ → ℕ → ℕ
with_digit n d = decimal_base * n + (d - digit_zero)

-- the number that digits write
abbrev pub number : List ℕ → ℕ
number digits = fold with_digit 0 digits

-- the token is `-` alone
abbrev pub is_dash : List ℕ → Bool
is_dash [] = false
is_dash (b ∷ []) = b == hyphen
is_dash (b ∷ c ∷ bs) = false

-- what a token names there
abbrev pub list_token : List ℕ → ListToken
list_token token =
    if is_dash token then behind_last
    else if is_index token then index (number token)
    else no_index
