-- What the name of a type stands for (RFC 7950, sections 5.5, 7.1.4 and 7.3).
use Rattle.std.specs.Prelude.{ℕ, suc, zero, ◌==◌, ◌^◌, Bool, List, Option, Some, None, codes, slice_get, is_some, option_map, option_and_then, ◌||◌, if◌then◌else◌}
use Rattle.std.specs.Option.{option_map_or}
use Rattle.std.specs.List.{list_any, before_first, after_first}
use Rattle.std.specs.Str.{bytes_eq}
use Rattle.host_core.specs.Characters.{colon}
use Rattle.yang_text.specs.Declarations.{Declaration, argument, block}
use Rattle.yang_scope.specs.Bases.{is_built_in_type, base_named, inet_named, yang_named}
use Rattle.yang_scope.specs.Modules.{Module, module_entries, typedef_entries, prefix_entries}
use Rattle.yang_scope.specs.Statements.{is_keyword, first_child, number_of_name}
use Rattle.yang_scope.specs.declared.bases.Base.{Base}
use Rattle.yang_scope.specs.declared.bases.Base.TheVariants.{Builtin as BuiltIn}
use Rattle.yang_scope.specs.declared.meanings.Meaning.{Meaning}
use Rattle.yang_scope.specs.declared.meanings.Meaning.TheVariants.{Ends, Goes, Nothing}
use Rattle.yang_scope.specs.declared.meanings.Space.{Space}
use Rattle.yang_scope.specs.declared.meanings.Space.TheVariants.{Files, Inet, Yang, Nowhere}

-- a character between a prefix and a name
abbrev pub is_colon : ℕ → Bool
is_colon c = c == colon

-- a module that is not among the files
abbrev pub built_in_space : List ℕ → Space
built_in_space name =
    if bytes_eq name (codes "ietf-inet-types") then Inet
    else if bytes_eq name (codes "ietf-yang-types") then Yang
    else Nowhere

-- the module of a name: the files come before what is built in
abbrev pub space_named : List Module → List ℕ → Space
space_named modules name =
    option_map_or Files (number_of_name name (module_entries modules)) (built_in_space name)

-- the module that a statement gives a prefix to: its own one, or the one that an import names
abbrev pub space_given : List Module → ℕ → Declaration → Space
space_given modules m d =
    if is_keyword (codes "prefix") d then Files m
    else option_map_or (space_named modules) (argument d) Nowhere

-- the statement that gives a prefix in a module
abbrev pub prefix_giver : List ℕ → Module → Option Declaration
prefix_giver prefix m =
    option_and_then (slice_get (block m.statement)) (number_of_name prefix (prefix_entries m))

-- the module that a prefix stands for in a module, named by its number
abbrev pub space_of : List Module → ℕ → List ℕ → Space
space_of modules m prefix =
    option_map_or (space_given modules m)
    (option_and_then (prefix_giver prefix) (slice_get modules m)) Nowhere

-- the typedef at a place of a module, where there is one
abbrev pub meaning_of_place : ℕ → Option ℕ → Meaning
meaning_of_place m None = Nothing
meaning_of_place m (Some place) = Goes m place

-- a built-in type, where there is one
abbrev pub meaning_of_base : Option Base → Meaning
meaning_of_base None = Nothing
meaning_of_base (Some base) = Ends base

-- a typedef of a module
abbrev pub typedef_named : List Module → ℕ → List ℕ → Meaning
typedef_named modules m name =
    meaning_of_place m
    (option_and_then (λ x. number_of_name name (typedef_entries x)) (slice_get modules m))

-- a name in a module
abbrev pub named_in : List Module → Space → List ℕ → Meaning
named_in modules (Files m) name = typedef_named modules m name
named_in modules Inet name = meaning_of_base (option_map BuiltIn (inet_named name))
named_in modules Yang name = meaning_of_base (option_map BuiltIn (yang_named name))
named_in modules Nowhere name = Nothing

-- a name without a prefix: a built-in type, or else a typedef of the module itself
abbrev pub named_here : List Module → ℕ → List ℕ → Meaning
named_here modules m name =
    if is_built_in_type name then meaning_of_base (base_named name)
    else typedef_named modules m name

-- what a name stands for in a module
abbrev pub meaning_of : List Module → ℕ → List ℕ → Meaning
meaning_of modules m name =
    if list_any is_colon name
    then named_in modules (space_of modules m (before_first is_colon name))
    (after_first is_colon name)
    else named_here modules m name

-- of a type statement with this argument
abbrev pub type_meaning : List Module → ℕ → Option (List ℕ) → Meaning
type_meaning modules m name = option_map_or (meaning_of modules m) name Nothing

-- what the type of a typedef stands for
abbrev pub typedef_meaning : List Module → ℕ → Declaration → Meaning
typedef_meaning modules m d =
    option_map_or (λ t. type_meaning modules m (argument t)) (first_child (codes "type") d) Nothing

-- the typedef at a place of a module
abbrev pub statement_at : List Module → ℕ → ℕ → Option Declaration
statement_at modules m place =
    option_and_then (λ x. slice_get (block x.statement) place) (slice_get modules m)

-- what the type of the typedef there stands for
abbrev pub meaning_at : List Module → ℕ → ℕ → Meaning
meaning_at modules m place =
    option_map_or (typedef_meaning modules m) (statement_at modules m place) Nothing

-- the base that a name stands for, or else that of the typedef that it names
abbrev pub base_by : (ℕ → ℕ → Option Base) → Meaning → Option Base
base_by base_at (Ends base) = Some base
base_by base_at (Goes m place) = base_at m place
base_by base_at Nothing = None

-- the base at the end of at most so many typedefs
unfoldable pub base_within : List Module → ℕ → Meaning → Option Base
base_within modules zero meaning = base_by (λ m place. None) meaning
base_within modules (suc most) meaning =
    base_by (λ m place. base_within modules most (meaning_at modules m place)) meaning

-- more typedefs than there can be: what has no base by then goes round a circle
abbrev pub most_typedefs : ℕ
most_typedefs = 2 ^ 64

-- the base of a type statement with this argument; None where a name on the way stands for nothing,
-- or the typedefs go round a circle
abbrev pub base_of : List Module → ℕ → Option (List ℕ) → Option Base
base_of modules m name = base_within modules most_typedefs (type_meaning modules m name)

-- whether an import may name a module
abbrev pub is_module : List Module → List ℕ → Bool
is_module modules name =
    is_some (number_of_name name (module_entries modules))
    || (bytes_eq name (codes "ietf-inet-types") || bytes_eq name (codes "ietf-yang-types"))
