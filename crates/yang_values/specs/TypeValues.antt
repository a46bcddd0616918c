-- What types are made of (RFC 7950, sections 7.3, 7.4 and 9), and the type that is stored of a type
-- statement. Where that has no fault its type is all that it says; a part that has a fault says nothing,
-- and a restriction that its type doesn't take restricts nothing.
use Rattle.std.specs.Prelude.{ℕ, zero, suc, ◌&&◌, ◌||◌, Bool, true, false, List, [], ◌∷◌, map, Option, Some, None, codes, option_and_then, if◌then◌else◌}
use Rattle.std.specs.List.{fold, flat_map}
use Rattle.std.specs.Option.{option_map_or, option_to_list}
use Rattle.yang_text.specs.Declarations.{Declaration, argument, block}
use Rattle.yang_types.specs.DataType.{DataType, text, number, length_within, value_within, matching, one_of, truth, builtin, leafref, union, members, plain, types_of}
use Rattle.yang_types.specs.declared.types.Bounds.{Bounds}
use Rattle.yang_types.specs.declared.types.Target.{Target}
use Rattle.yang_scope.specs.Meanings.{type_meaning, base_of}
use Rattle.yang_scope.specs.Modules.{Module}
use Rattle.yang_scope.specs.Paths.{Placed, path_end}
use Rattle.yang_scope.specs.Statements.{is_keyword, first_child, children_of}
use Rattle.yang_scope.specs.declared.bases.Base.{Base}
use Rattle.yang_scope.specs.declared.bases.Base.TheVariants.{Text, Number, Enumeration, Truth, Leafref, Union, Builtin as BuiltIn}
use Rattle.yang_scope.specs.declared.meanings.Meaning.{Meaning}
use Rattle.yang_scope.specs.declared.meanings.Meaning.TheVariants.{Ends, Goes, Nothing}
use Rattle.yang_values.specs.Targets.{target_of}
use Rattle.yang_values.specs.Values.{most_steps, is_restriction, parts_in, restricted_values, typedef_type}

-- type statements of a module
abbrev pub placed_in : ℕ → List Declaration → List Placed
placed_in m ds = map (λ d. (m, d)) ds

-- the path of a leafref
abbrev pub path_of : Declaration → Option (List ℕ)
path_of d = option_and_then argument (first_child (codes "path") d)

-- the type statement of the key leaf that a path in a module leads to
abbrev pub leaf_types : List Module → ℕ → List ℕ → List Placed
leaf_types modules m s =
    option_map_or
    (λ leaf. placed_in leaf.0 (option_to_list (first_child (codes "type") leaf.1)))
    (path_end modules m s) []

-- the type statements that one leads to by what its name stands for: that of the typedef, that of
-- the key leaf, and the members of a union
abbrev pub next_by : List Module → ℕ → Declaration → Meaning → List Placed
next_by modules m d (Goes k place) = placed_in k (option_to_list (typedef_type modules k place))
next_by modules m d (Ends Leafref) = option_map_or (leaf_types modules m) (path_of d) []
next_by modules m d (Ends Union) = placed_in m (children_of (codes "type") d)
next_by modules m d (Ends _) = []
next_by modules m d Nothing = []

-- the type statements that one leads to
abbrev pub next : List Module → Placed → List Placed
next modules p = next_by modules p.0 p.1 (type_meaning modules p.0 (argument p.1))

-- the name of an enum
abbrev pub enum_name : Declaration → List (List ℕ)
enum_name d = if is_keyword (codes "enum") d then option_to_list (argument d) else []

-- the type of a typedef, where there is one
abbrev pub only_type : List DataType → DataType
only_type [] = text
only_type (t ∷ ts) = t

-- the target of a leafref whose path leads to nothing
abbrev pub nowhere : Target
nowhere = record { table = []; shape = 0; part = 0 }

-- a leafref is one whatever its path says; in it stands what the leaf's type accepts by itself
abbrev pub leafref_of : Option Target → List DataType → DataType
leafref_of None ts = leafref nowhere (plain (only_type ts))
leafref_of (Some target) ts = leafref target (plain (only_type ts))

-- what a name stands for, by the types that it leads to; no union stands right within another
abbrev pub named_type : List Module → Declaration → List DataType → Meaning → DataType
named_type modules d ts Nothing = text
named_type modules d ts (Goes m place) = only_type ts
named_type modules d ts (Ends Text) = text
named_type modules d ts (Ends (Number b)) = number b
named_type modules d ts (Ends Enumeration) = one_of (flat_map enum_name (block d))
named_type modules d ts (Ends Truth) = truth
named_type modules d ts (Ends Leafref) =
    leafref_of (option_and_then (target_of modules) (path_of d)) ts
named_type modules d ts (Ends Union) = union (types_of (flat_map members ts))
named_type modules d ts (Ends (BuiltIn b)) = builtin b

-- a pattern that is one
abbrev pub matching_by : (List ℕ → Bool) → DataType → List ℕ → DataType
matching_by is_pattern t s = if is_pattern s then matching t s else t

-- a type with one restriction more
abbrev pub restrict : (List ℕ → Bool) → List Bounds → DataType → Declaration → DataType
restrict is_pattern values t d =
    if is_keyword (codes "length") d
    then option_map_or (length_within t) (parts_in values d) t
    else if is_keyword (codes "range") d
    then option_map_or (value_within t) (parts_in values d) t
    else if is_keyword (codes "pattern") d
    then option_map_or (matching_by is_pattern t) (argument d) t
    else t

-- patterns restrict a string, and what has no base
abbrev pub takes_patterns : Option Base → Bool
takes_patterns None = true
takes_patterns (Some Text) = true
takes_patterns (Some _) = false

-- a restriction that a type of this base takes
abbrev pub is_taken : Option Base → Declaration → Bool
is_taken base d = is_restriction base d || (takes_patterns base && is_keyword (codes "pattern") d)

-- a type with one restriction more, where its base takes it
abbrev pub restrict_if_taken :
    (List ℕ → Bool) → Option Base → List Bounds → DataType → Declaration → DataType
restrict_if_taken is_pattern base values t d =
    if is_taken base d then restrict is_pattern values t d else t

-- the type of a statement by the types that it leads to: the restrictions that it takes stand round
-- what its name stands for, in the order of the text
abbrev pub type_by : (List ℕ → Bool) → List Module → Placed → List DataType → DataType
type_by is_pattern modules p ts =
    fold
    (restrict_if_taken is_pattern (base_of modules p.0 (argument p.1))
    (restricted_values modules p.0 p.1))
    (named_type modules p.1 ts (type_meaning modules p.0 (argument p.1))) (block p.1)

-- the type of a statement, by what it leads to in at most so many steps
unfoldable pub type_within : (List ℕ → Bool) → List Module → ℕ → Placed → DataType
type_within is_pattern modules zero p = text
type_within is_pattern modules (suc most) p =
    type_by is_pattern modules p (map (type_within is_pattern modules most) (next modules p))

-- the type that is stored of a type statement of a module
abbrev pub stored_type : (List ℕ → Bool) → List Module → ℕ → Declaration → DataType
stored_type is_pattern modules m d = type_within is_pattern modules most_steps (m, d)
