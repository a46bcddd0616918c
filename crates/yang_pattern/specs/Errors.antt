-- What is said of an error.
use Rattle.std.specs.Prelude.{ℕ, List, ◌≤◌, take, length, chars}
use Rattle.std.specs.Bool.{⊤}
use Rattle.yang_pattern.specs.declared.errors.PatternError.{PatternError}
use Rattle.yang_pattern.specs.declared.errors.PatternError.TheVariants.{Bad, Memory}
use Rattle.yang_pattern.specs.declared.errors.Failure.{Failure}
use Rattle.yang_pattern.specs.declared.errors.Failure.TheVariants.{NoPattern, NoMemory}
use Rattle.yang_pattern.specs.Language.{BeginsPattern}

-- a fact, where the text is no pattern
abbrev pub IfBad : PatternError → Type 0 → Type 0
IfBad (Bad at) P = P
IfBad Memory P = ⊤

-- a place in the text, in bytes, before which no fault stands: what is before it begins a pattern
abbrev pub IsFaultFree : List ℕ → ℕ → Type 0
IsFaultFree text at = (at ≤ length text) × BeginsPattern (chars (take at text))

-- the place of a fault, where there is one
abbrev pub HasPlaceIn : List ℕ → PatternError → Type 0
HasPlaceIn text (Bad at) = IsFaultFree text at
HasPlaceIn text Memory = ⊤

-- a fact, where a part of the text can't be read
abbrev pub IfNoPattern : Failure → Type 0 → Type 0
IfNoPattern NoPattern P = P
IfNoPattern NoMemory P = ⊤
