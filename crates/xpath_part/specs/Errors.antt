-- What is said of an error.
use Rattle.std.specs.Prelude.{ℕ, ◌≤◌}
use Rattle.std.specs.Bool.{⊤}
use Rattle.xpath_part.specs.declared.errors.ExprError.{ExprError}
use Rattle.xpath_part.specs.declared.errors.ExprError.TheVariants.{Bad, Memory}

-- a fact, where the text is no expression
abbrev pub IfBad : ExprError → Type 0 → Type 0
IfBad (Bad at) P = P
IfBad Memory P = ⊤

-- the position is at most n
abbrev pub IsPlaceUpTo : ℕ → ExprError → Type 0
IsPlaceUpTo n (Bad at) = at ≤ n
IsPlaceUpTo n Memory = ⊤
