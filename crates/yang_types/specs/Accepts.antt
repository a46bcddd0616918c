-- Which texts a type accepts by itself (RFC 7950, section 9), apart from what a leafref wants.
use Rattle.std.specs.Prelude.{◌≡◌, ◌⊎◌, ℕ, pos, List, length, chars, codes, Contains}
use Rattle.yang_pattern.specs.Language.{MatchesText}
use Rattle.yang_types.specs.DataType.{DataType, text, number, length_within, value_within, matching, one_of, truth, builtin, leafref, union, DataTypes, no_types, type_and}
use Rattle.yang_types.specs.Numbers.{IsNumberWithin, IsNumberWithinAny, IsWithinAny}
use Rattle.yang_types.specs.Addresses.{IsBuiltin}

-- how many characters a text has
abbrev pub char_count : List ℕ → ℕ
char_count s = length (chars s)

abbrev mutual
  -- a length speaks of characters, a range of the value of a number, and a leafref accepts what the
  -- type of the leaf that it names accepts
  pub Accepts : DataType → List ℕ → Type 0
  Accepts text s = Unit {0}
  Accepts (number bounds) s = IsNumberWithin s bounds
  Accepts (length_within t parts) s = Accepts t s × IsWithinAny (pos (char_count s)) parts
  Accepts (value_within t parts) s = Accepts t s × IsNumberWithinAny s parts
  Accepts (matching t pattern) s = Accepts t s × MatchesText pattern s
  Accepts (one_of names) s = Contains names s
  Accepts truth s = (s ≡ codes "true") ⊎ (s ≡ codes "false")
  Accepts (builtin b) s = IsBuiltin b s
  Accepts (leafref target t) s = Accepts t s
  Accepts (union ts) s = AcceptsAny ts s

  -- some of the types accepts the text
  pub AcceptsAny : DataTypes → List ℕ → Type 0
  AcceptsAny no_types s = ⊥
  AcceptsAny (type_and t ts) s = Accepts t s ⊎ AcceptsAny ts s
