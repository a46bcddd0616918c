-- The type of a type statement as it is written (RFC 7950, sections 7.3, 7.4, 9.9 and 9.12): a leafref holds the type
-- of the leaf that it names, and a union holds its members. What is stored of it is its flat form.
use Rattle.std.specs.Prelude.{ℕ, zero, suc, Bool, List, map, option_and_then, unwrap_or}
use Rattle.std.specs.List.{fold, flat_map}
use Rattle.yang_text.specs.Declarations.{Declaration, argument, block}
use Rattle.yang_types.specs.DataType.{DataType, text, number, one_of, truth, builtin, leafref, union, types_of}
use Rattle.yang_scope.specs.Meanings.{type_meaning, base_of}
use Rattle.yang_scope.specs.Modules.{Module}
use Rattle.yang_scope.specs.Paths.{Placed}
use Rattle.yang_scope.specs.declared.bases.Base.TheVariants.{Text, Number, Enumeration, Truth, Leafref, Union, Builtin as BuiltIn}
use Rattle.yang_scope.specs.declared.meanings.Meaning.{Meaning}
use Rattle.yang_scope.specs.declared.meanings.Meaning.TheVariants.{Ends, Goes, Nothing}
use Rattle.yang_values.specs.Targets.{target_of}
use Rattle.yang_values.specs.TypeValues.{enum_name, next, nowhere, only_type, path_of, restrict_if_taken}
use Rattle.yang_values.specs.Values.{most_steps, restricted_values}

-- what a name stands for, by the types that it leads to; a leafref is one whatever its path says
abbrev pub written_name : List Module → Declaration → List DataType → Meaning → DataType
written_name modules d ts Nothing = text
written_name modules d ts (Goes m place) = only_type ts
written_name modules d ts (Ends Text) = text
written_name modules d ts (Ends (Number b)) = number b
written_name modules d ts (Ends Enumeration) = one_of (flat_map enum_name (block d))
written_name modules d ts (Ends Truth) = truth
written_name modules d ts (Ends Leafref) =
    leafref (unwrap_or (option_and_then (target_of modules) (path_of d)) nowhere) (only_type ts)
written_name modules d ts (Ends Union) = union (types_of ts)
written_name modules d ts (Ends (BuiltIn b)) = builtin b

-- the type of a statement by the types that it leads to: the restrictions that it takes stand round
-- what its name stands for, in the order of the text
abbrev pub written_by : (List ℕ → Bool) → List Module → Placed → List DataType → DataType
written_by is_pattern modules p ts =
    fold
    (restrict_if_taken is_pattern (base_of modules p.0 (argument p.1))
    (restricted_values modules p.0 p.1))
    (written_name modules p.1 ts (type_meaning modules p.0 (argument p.1))) (block p.1)

-- the type of a statement, by what it leads to in at most so many steps
unfoldable pub written_within : (List ℕ → Bool) → List Module → ℕ → Placed → DataType
written_within is_pattern modules zero p = text
written_within is_pattern modules (suc most) p =
    written_by is_pattern modules p
    (map (written_within is_pattern modules most) (next modules p))

-- the type of a type statement of a module
abbrev pub written_type : (List ℕ → Bool) → List Module → ℕ → Declaration → DataType
written_type is_pattern modules m d = written_within is_pattern modules most_steps (m, d)
