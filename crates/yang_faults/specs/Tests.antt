-- Tests of texts that sentences on statements name: what the crates below tell of them.
use Rattle.std.specs.Prelude.{◌≡◌, ℕ, Bool, List, Option}
use Rattle.yang_types.specs.DataType.{DataType}
use Rattle.yang_scope.specs.Faults.{least_of}
use Rattle.yang_scope.specs.Modules.{Module}
use Rattle.yang_scope.specs.Paths.{Placed}
use Rattle.yang_scope.specs.TypeFaults.{DecidesPatterns}
use Rattle.yang_scope.specs.declared.faults.Fault.{Fault}
use Rattle.yang_values.specs.Circles.{DecidesCircles}
use Rattle.yang_values.specs.Defaults.{DecidesTexts}

-- which texts are patterns, which ones a type accepts, and which type statements are on a circle
pub record Tests : Type 0 where
  pub is_pattern : List ℕ → Bool
  pub accepts : DataType → List ℕ → Bool
  pub is_on_circle : List Module → Placed → Bool

-- they tell what they are to tell
pub record Decide (tests : Tests) : Type 0 where
  pub patterns : DecidesPatterns tests.is_pattern
  pub texts : DecidesTexts tests.accepts
  pub circles : (modules : List Module) → DecidesCircles modules (tests.is_on_circle modules)

-- the least fault so far is kept, with those of a list that the tests tell
abbrev pub Notes : Option Fault → Option Fault → (Tests → List Fault) → Type 0
Notes old new faults =
    (tests : Tests) → Decide tests → new ≡ least_of old (faults tests)
