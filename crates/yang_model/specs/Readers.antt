-- What the crates below read of texts, as functions that a clause can name.
use Rattle.std.specs.Prelude.{◌≡◌, ℕ, List, Option}
use Rattle.xpath_part.specs.Expression.{Expression}
use Rattle.yang_must.specs.Musts.{ReadsExpressions}
use Rattle.yang_faults.specs.Tests.{Tests, Decide}

-- which texts are patterns and which ones types accept, and the expression that a text spells
pub record Readers : Type 0 where
  pub tests : Tests
  pub read : List ℕ → Option Expression

-- they read what they are to read
pub record AreTrue (readers : Readers) : Type 0 where
  pub tests : Decide readers.tests
  pub expressions : ReadsExpressions readers.read

-- a value is what the readers make of it
abbrev pub Gives : {X : Type 0} → X → (Readers → X) → Type 0
Gives x value = (readers : Readers) → AreTrue readers → x ≡ value readers
