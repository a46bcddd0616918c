-- Circles of typedefs and leafrefs, through unions too (RFC 7950, sections 7.3.4 and 9.9).
use Rattle.std.specs.Prelude.{◌≡◌, ◌↔◌, IsTrue, ℕ, zero, suc, Bool, true, false, List, [], ◌∷◌, Contains, Option, Some, None, if◌then◌else◌}
use Rattle.yang_text.specs.Declarations.{Declaration}
use Rattle.yang_text.specs.declared.errors.ModelWhy.TheVariants.{Circle}
use Rattle.yang_scope.specs.Faults.{fault_at}
use Rattle.yang_scope.specs.Modules.{Module}
use Rattle.yang_scope.specs.Paths.{Placed}
use Rattle.yang_scope.specs.declared.bases.Base.{Base}
use Rattle.yang_scope.specs.declared.bases.Base.TheVariants.{Leafref, Union}
use Rattle.yang_scope.specs.declared.faults.Fault.{Fault}
use Rattle.yang_values.specs.TypeValues.{next}

-- a type statement leads to another in so many steps
abbrev pub LeadsIn : List Module → ℕ → Placed → Placed → Type 0
LeadsIn modules zero p q = p ≡ q
LeadsIn modules (suc steps) p q =
    (r : Placed) × Contains (next modules p) r × LeadsIn modules steps r q

-- in one or more
abbrev pub IsReached : List Module → Placed → Placed → Type 0
IsReached modules p q = (steps : ℕ) × LeadsIn modules (suc steps) p q

-- it leads to itself
abbrev pub IsOnCircle : List Module → Placed → Type 0
IsOnCircle modules p = IsReached modules p p

-- a test that tells the statements on a circle from the others
pub record DecidesCircles (modules : List Module) (is_on_circle : Placed → Bool) : Type 0 where
  pub decides : (p : Placed) → IsTrue (is_on_circle p) ↔ IsOnCircle modules p

-- Circle stands at a type statement that lies on a circle
abbrev pub circle : (Placed → Bool) → ℕ → ℕ → Declaration → List Fault
circle is_on_circle file m d = if is_on_circle (m, d) then fault_at file Circle d ∷ [] else []

-- a base that is all that its typedefs lead to
abbrev pub is_plain : Option Base → Bool
is_plain None = false
is_plain (Some Leafref) = false
is_plain (Some Union) = false
is_plain (Some _) = true
