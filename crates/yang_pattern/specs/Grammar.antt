-- How texts spell patterns (RFC 7950, section 9.4.5, and XML Schema part 2, appendix F, in a profile).
use Rattle.std.specs.Prelude.{◌≡◌, ◌≢◌, ℕ, ◌+◌, ◌≤◌, ◌==◌, ◌||◌, not, ◌⊎◌, Bool, true, false, IsTrue, List, [], ◌∷◌, ◌++◌, map, Some, ◌/◌, ◌%◌, nat_lt, if◌then◌else◌}
use Rattle.host_core.specs.Characters.{backslash, bar, carriage_return, circumflex, close_brace, close_bracket, close_parenthesis, comma, decimal_base, digit_zero, full_stop, hyphen, line_feed, open_brace, open_bracket, open_parenthesis, plus, question_mark, star}
use Rattle.yang_pattern.specs.declared.letters.Letter.{Letter}
use Rattle.yang_pattern.specs.declared.symbols.Quantifier.{Quantifier}
use Rattle.yang_pattern.specs.declared.symbols.Quantifier.TheVariants.{OneOrMore, AtLeast, Between}
use Rattle.yang_pattern.specs.declared.symbols.Token.{Token}
use Rattle.yang_pattern.specs.declared.symbols.Token.TheVariants.{Open, Close, Bar, Times, Symbol}
use Rattle.yang_pattern.specs.Escapes.{escaped_character}
use Rattle.yang_pattern.specs.Limits.{three_digits, greatest_count}

-- a letter's characters: one other than a backslash, or a backslash and what it escapes
abbrev pub IsLetter : Bool → ℕ → List ℕ → Type 0
IsLetter false c s = (s ≡ c ∷ []) × (c ≢ backslash)
IsLetter true c s = (e : ℕ) × (s ≡ backslash ∷ e ∷ []) × (escaped_character e ≡ Some c)

-- the letters of a text
abbrev pub IsText : List Letter → List ℕ → Type 0
IsText [] s = s ≡ []
IsText (l ∷ ls) s =
    (x : List ℕ) × (y : List ℕ) × (s ≡ x ++ y) × IsLetter l.escaped l.character x × IsText ls y

-- a character without backslash
abbrev pub plain : ℕ → Letter
plain c = record { character = c; escaped = false }

-- `. ? * + { } ( ) [ ] |`
abbrev pub is_special : ℕ → Bool
is_special c =
    c == full_stop || c == question_mark || c == star || c == plus
    || c == open_brace || c == close_brace || c == open_parenthesis || c == close_parenthesis
    || c == open_bracket || c == close_bracket || c == bar

-- an escape or a character that isn't special: itself
abbrev pub IsSingle : Bool × List (ℕ × ℕ) → List Letter → Type 0
IsSingle y ls =
    (l : Letter) × (ls ≡ l ∷ []) × IsTrue (l.escaped || not (is_special l.character))
    × (y ≡ (false, (l.character, l.character) ∷ []))

-- `.`: any character but line feed and carriage return
abbrev pub IsAny : Bool × List (ℕ × ℕ) → List Letter → Type 0
IsAny y ls =
    (ls ≡ plain full_stop ∷ [])
    × (y ≡ (true, (line_feed, line_feed) ∷ (carriage_return, carriage_return) ∷ []))

-- what may be an item of a class, or a bound of a range: an escape, or a character other than
-- `[`, `]` and `-`
abbrev pub IsBound : Letter → Type 0
IsBound l =
    IsTrue (l.escaped || not
    (l.character == hyphen || l.character == open_bracket || l.character == close_bracket))

-- an item of a class: a bound, or a range of two, the first not above the second
abbrev pub IsItem : ℕ × ℕ → List Letter → Type 0
IsItem range ls =
    ((a : Letter) × (ls ≡ a ∷ []) × IsBound a × (range ≡ (a.character, a.character)))
    ⊎ ((a : Letter) × (b : Letter) × (ls ≡ a ∷ plain hyphen ∷ b ∷ []) × IsBound a × IsBound b
    × (a.character ≤ b.character) × (range ≡ (a.character, b.character)))

-- the items of a class, one after another
abbrev pub AreItems : List (ℕ × ℕ) → List Letter → Type 0
AreItems [] ls = ls ≡ []
AreItems (range ∷ ranges) ls =
    (x : List Letter) × (y : List Letter) × (ls ≡ x ++ y) × IsItem range x × AreItems ranges y

-- a `-` that stands first or last, where there is one
abbrev pub dash : Bool → List Letter
dash true = plain hyphen ∷ []
dash false = []

-- the item that it is
abbrev pub dash_range : Bool → List (ℕ × ℕ)
dash_range true = (hyphen, hyphen) ∷ []
dash_range false = []

-- the `^` of a negated class
abbrev pub caret : Bool → List Letter
caret true = plain circumflex ∷ []
caret false = []

-- letters that a `^` without backslash begins
abbrev pub BeginsWithCaret : List Letter → Type 0
BeginsWithCaret [] = ⊥
BeginsWithCaret (l ∷ ls) = l ≡ plain circumflex

-- a class in brackets, with at least one item
pub record IsClass (y : Bool × List (ℕ × ℕ)) (ls : List Letter) : Type 0 where
  pub front : Bool
  pub back : Bool
  pub middle : List (ℕ × ℕ)
  pub items : List Letter
  pub letters :
      ls ≡ plain open_bracket
      ∷ (caret y.0 ++ (dash front ++ (items ++ (dash back ++ plain close_bracket ∷ []))))
  pub are_items : AreItems middle items
  pub ranges : y.1 ≡ dash_range front ++ (middle ++ dash_range back)
  pub some : y.1 ≢ []
  pub unnegated : y.0 ≡ false → BeginsWithCaret (dash front ++ items) → ⊥

-- the decimal of a number below 1,000, without leading zeros
abbrev pub decimal : ℕ → List ℕ
decimal n =
    if nat_lt n decimal_base then (digit_zero + n) ∷ []
    else if nat_lt n three_digits
    then (digit_zero + n / decimal_base) ∷ (digit_zero + n % decimal_base) ∷ []
    else (digit_zero + n / three_digits) ∷ (digit_zero + n / decimal_base % decimal_base)
    ∷ (digit_zero + n % decimal_base) ∷ []

-- the letters of the decimal
abbrev pub digits : ℕ → List Letter
digits n = map plain (decimal n)

-- a quantifier: `*`, `+`, `?`, `{n}`, `{n,}` or `{n,m}`, with decimals up to 255
abbrev pub IsQuantifier : Quantifier → List Letter → Type 0
IsQuantifier OneOrMore ls = ls ≡ plain plus ∷ []
IsQuantifier (AtLeast n) ls =
    ((ls ≡ plain star ∷ []) × (n ≡ 0))
    ⊎ ((n ≤ greatest_count)
    × (ls ≡ plain open_brace ∷ (digits n ++ plain comma ∷ plain close_brace ∷ [])))
IsQuantifier (Between n m) ls =
    ((ls ≡ plain question_mark ∷ []) × (n ≡ 0) × (m ≡ 1))
    ⊎ (((n ≤ greatest_count) × (m ≡ 0)
    × (ls ≡ plain open_brace ∷ (digits n ++ plain close_brace ∷ [])))
    ⊎ ((n + m ≤ greatest_count)
    × (ls ≡ plain open_brace ∷
    (digits n ++ plain comma ∷ (digits (n + m) ++ plain close_brace ∷ [])))))

-- the letters of a token
abbrev pub IsToken : Token → List Letter → Type 0
IsToken Open ls = ls ≡ plain open_parenthesis ∷ []
IsToken Close ls = ls ≡ plain close_parenthesis ∷ []
IsToken Bar ls = ls ≡ plain bar ∷ []
IsToken (Times q) ls = IsQuantifier q ls
IsToken (Symbol y) ls = IsSingle y ls ⊎ (IsAny y ls ⊎ IsClass y ls)

-- the letters of tokens, one after another
abbrev pub AreTokens : List Token → List Letter → Type 0
AreTokens [] ls = ls ≡ []
AreTokens (t ∷ ts) ls =
    (x : List Letter) × (y : List Letter) × (ls ≡ x ++ y) × IsToken t x × AreTokens ts y
