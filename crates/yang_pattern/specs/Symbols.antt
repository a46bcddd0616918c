-- Sets of characters, and how often an atom may stand in a row.
use Rattle.std.specs.Prelude.{◌≡◌, ℕ, zero, suc, ◌+◌, ◌≤◌, Bool, false, ◌&&◌, nat_le, not, List, [], ◌++◌, if◌then◌else◌, Option, Some, None, slice_get}
use Rattle.std.specs.List.{list_any}
use Rattle.yang_pattern.specs.declared.symbols.Quantifier.{Quantifier}
use Rattle.yang_pattern.specs.declared.symbols.Quantifier.TheVariants.{OneOrMore, AtLeast, Between}
use Rattle.yang_pattern.specs.declared.symbols.Token.{Token}
use Rattle.yang_pattern.specs.declared.symbols.Token.TheVariants.{Open, Close, Bar, Times, Symbol}

-- whether a character is in one of the ranges
abbrev pub in_ranges : List (ℕ × ℕ) → ℕ → Bool
in_ranges ranges c = list_any (λ range. nat_le range.0 c && nat_le c range.1) ranges

-- whether a symbol accepts a character: one of its ranges has it, or none if the symbol is negated
abbrev pub accepts : Bool × List (ℕ × ℕ) → ℕ → Bool
accepts symbol c = if symbol.0 then not (in_ranges symbol.1 c) else in_ranges symbol.1 c

-- the numbers of times that a quantifier allows
abbrev pub Allows : Quantifier → ℕ → Type 0
Allows OneOrMore n = 1 ≤ n
Allows (AtLeast least) n = least ≤ n
Allows (Between least more) n = (least ≤ n) × (n ≤ least + more)

-- what a quantifier multiplies a size by
abbrev pub factor : Quantifier → ℕ
factor OneOrMore = 1
factor (AtLeast least) = least + 1
factor (Between least more) = least + more

-- n texts of P, one after another
abbrev pub Repeated : (List ℕ → Type 0) → ℕ → List ℕ → Type 0
Repeated P zero u = u ≡ []
Repeated P (suc n) u = (x : List ℕ) × (y : List ℕ) × (u ≡ x ++ y) × P x × Repeated P n y

-- whether a token is a symbol that accepts the character
abbrev pub symbol_accepts : Option Token → ℕ → Bool
symbol_accepts None c = false
symbol_accepts (Some Open) c = false
symbol_accepts (Some Close) c = false
symbol_accepts (Some Bar) c = false
symbol_accepts (Some (Times quantifier)) c = false
symbol_accepts (Some (Symbol symbol)) c = accepts symbol c

-- whether the token of a number is a symbol that accepts the character
abbrev pub reads_token : List Token → ℕ → ℕ → Bool
reads_token tokens number c = symbol_accepts (slice_get tokens number) c
