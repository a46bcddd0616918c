-- Ways on from a type statement that end.
use Rattle.std.specs.Prelude.{ℕ, zero, suc, Bool, true, false, List, Option, Some, None, Contains}
use Rattle.yang_scope.specs.Modules.{Module}
use Rattle.yang_scope.specs.Paths.{Placed}
use Rattle.yang_scope.specs.declared.bases.Base.{Base}
use Rattle.yang_scope.specs.declared.bases.Base.TheVariants.{Leafref, Union}
use Rattle.yang_values.specs.TypeValues.{next}

-- each way on from a type statement ends before so many steps
abbrev pub EndsIn : List Module → ℕ → Placed → Type 0
EndsIn modules zero p = ⊥
EndsIn modules (suc most) p = (q : Placed) → Contains (next modules p) q → EndsIn modules most q

-- each way on from a type statement ends, the longest too
abbrev pub DoesEnd : List Module → Placed → Type 0
DoesEnd modules p = (most : ℕ) × EndsIn modules most p

-- a type with this base may lead to others, round a circle too
abbrev pub leads_on : Option Base → Bool
leads_on None = true
leads_on (Some Leafref) = true
leads_on (Some Union) = true
leads_on (Some _) = false
