-- Defaults that their types don't take (RFC 7950, section 7.6.4, in a profile).
use Rattle.std.specs.Prelude.{◌↔◌, IsTrue, ◌||◌, Bool, true, false, ℕ, List, [], ◌∷◌, if◌then◌else◌}
use Rattle.std.specs.Option.{option_map_or}
use Rattle.yang_text.specs.Declarations.{Declaration, argument}
use Rattle.yang_text.specs.declared.errors.ModelWhy.TheVariants.{BadArgument}
use Rattle.yang_types.specs.Accepts.{Accepts}
use Rattle.yang_types.specs.DataType.{DataType, text, number, length_within, value_within, matching, one_of, truth, builtin, leafref, union, DataTypes, no_types, type_and}
use Rattle.yang_scope.specs.Faults.{fault_at}
use Rattle.yang_scope.specs.declared.faults.Fault.{Fault}

abbrev mutual
  -- a type that is or holds a leafref
  pub has_leafref : DataType → Bool
  has_leafref text = false
  has_leafref (number bounds) = false
  has_leafref (length_within t parts) = has_leafref t
  has_leafref (value_within t parts) = has_leafref t
  has_leafref (matching t pattern) = has_leafref t
  has_leafref (one_of names) = false
  has_leafref truth = false
  has_leafref (builtin b) = false
  has_leafref (leafref target t) = true
  has_leafref (union ts) = have_leafref ts

  -- some of the types does
  pub have_leafref : DataTypes → Bool
  have_leafref no_types = false
  have_leafref (type_and t ts) = has_leafref t || have_leafref ts

-- a test that tells the texts that types accept from the others
pub record DecidesTexts (accepts : DataType → List ℕ → Bool) : Type 0 where
  pub decides : (t : DataType) (s : List ℕ) → IsTrue (accepts t s) ↔ Accepts t s

-- a default is accepted by its type, and a type that holds a leafref takes none
abbrev pub bad_text : (DataType → List ℕ → Bool) → ℕ → DataType → Declaration → List ℕ → List Fault
bad_text accepts file t d s =
    if has_leafref t then fault_at file BadArgument d ∷ []
    else if accepts t s then []
    else fault_at file BadArgument d ∷ []

-- BadArgument: a default that its type doesn't take; where it has no argument, that is a fault of
-- its own
abbrev pub bad_default : (DataType → List ℕ → Bool) → ℕ → DataType → Declaration → List Fault
bad_default accepts file t d = option_map_or (bad_text accepts file t d) (argument d) []
