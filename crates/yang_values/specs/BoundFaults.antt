-- What is wrong with the lengths and ranges of a type statement (RFC 7950, sections 9.2.4 and 9.4.4).
use Rattle.std.specs.Prelude.{ℕ, List, [], ◌∷◌, Option, Some, None, is_some, if◌then◌else◌}
use Rattle.std.specs.List.{flat_map}
use Rattle.yang_text.specs.Declarations.{Declaration, argument, block}
use Rattle.yang_text.specs.declared.errors.ModelWhy.TheVariants.{BadArgument}
use Rattle.yang_types.specs.declared.types.Bounds.{Bounds}
use Rattle.yang_scope.specs.Faults.{fault_at}
use Rattle.yang_scope.specs.Meanings.{base_of}
use Rattle.yang_scope.specs.Modules.{Module}
use Rattle.yang_scope.specs.declared.bases.Base.{Base}
use Rattle.yang_scope.specs.declared.faults.Fault.{Fault}
use Rattle.yang_values.specs.Parts.{parts}
use Rattle.yang_values.specs.Values.{is_restriction, restricted_values}

-- where there is no argument, that is a fault of its own
abbrev pub bad_bounds_by : List Bounds → ℕ → Declaration → Option (List ℕ) → List Fault
bad_bounds_by values file d None = []
bad_bounds_by values file d (Some s) =
    if is_some (parts values s) then [] else fault_at file BadArgument d ∷ []

-- of a statement, where it is a length or a range
abbrev pub bad_if_bounds : Option Base → List Bounds → ℕ → Declaration → List Fault
bad_if_bounds base values file d =
    if is_restriction base d then bad_bounds_by values file d (argument d) else []

-- BadArgument: a length or a range that is not of its form, or whose lower bound is above the upper
abbrev pub bad_bounds : List Module → ℕ → ℕ → Declaration → List Fault
bad_bounds modules file m d =
    flat_map
    (bad_if_bounds (base_of modules m (argument d)) (restricted_values modules m d) file)
    (block d)
