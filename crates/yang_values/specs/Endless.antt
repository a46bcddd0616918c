-- What is known of types that lead to circles, of how many steps of them it is known.
use Rattle.std.specs.Prelude.{◌≡◌, ◌↔◌, ◌+◌, IsTrue, ℕ, Bool, true, false, List, Contains}
use Rattle.yang_types.specs.Accepts.{Accepts}
use Rattle.yang_types.specs.DataType.{DataType}
use Rattle.yang_scope.specs.Modules.{Module}
use Rattle.yang_scope.specs.Paths.{Placed}
use Rattle.yang_scope.specs.TypeFaults.{DecidesPatterns}
use Rattle.yang_values.specs.Defaults.{has_leafref}
use Rattle.yang_values.specs.TypeValues.{next, type_within}
use Rattle.yang_values.specs.Walks.{placed}
use Rattle.yang_values.specs.declared.endless.Taste.{Taste}
use Rattle.yang_values.specs.declared.endless.Known.{Known}

-- a type statement, and what is known of its type
abbrev pub known_of : Known → Placed × Taste
known_of k = (placed k.place, k.taste)

-- the statement alone
abbrev pub place_of : Known → Placed
place_of k = placed k.place

-- of a text that is accepted, by a type with no leafref
abbrev pub untried : Placed → Placed × Taste
untried p = (p, record { holds = false; accepts = true })

-- what is known of a type for a text holds
pub record HasTaste (s : List ℕ) (t : DataType) (taste : Taste) : Type 0 where
  pub holds : has_leafref t ≡ taste.holds
  pub accepts : IsTrue taste.accepts ↔ Accepts t s

-- a type of which the same is known as of a statement's
abbrev pub StandsFor : List (Placed × Taste) → Placed → DataType → Type 0
StandsFor known p t =
    (taste : Taste) × Contains known (p, taste) × ((s : List ℕ) → HasTaste s t taste)

-- no statement leads out of some
abbrev pub AreClosed : List Module → List Placed → Type 0
AreClosed modules ps =
    (p q : Placed) → Contains ps p → Contains (next modules p) q → Contains ps q

-- what is known holds of types by what they lead to in at most so many steps
abbrev pub AreRight : (List ℕ → Bool) → List Module → List ℕ → ℕ → List (Placed × Taste) → Type 0
AreRight is_pattern modules s most known =
    (p : Placed) (taste : Taste) → Contains known (p, taste)
    → HasTaste s (type_within is_pattern modules most p) taste

-- where it holds of so many steps, the other holds of one more
abbrev pub LeadTo : List Module → List ℕ → List (Placed × Taste) → List (Placed × Taste) → Type 0
LeadTo modules s known more =
    (is_pattern : List ℕ → Bool) → DecidesPatterns is_pattern
    → (most : ℕ) → AreRight is_pattern modules s most known
    → AreRight is_pattern modules s (most + 1) more
