-- The path of a leafref (RFC 7950, section 9.9.2), in a profile: four steps to a key leaf.
use Rattle.std.specs.Prelude.{ℕ, suc, ◌==◌, ◌&&◌, Bool, true, false, List, [], ◌∷◌, length, Option, Some, None, codes, is_some, option_map, option_and_then, slice_get, if◌then◌else◌}
use Rattle.std.specs.List.{list_any, list_all, find, before_first, after_first}
use Rattle.std.specs.Option.{option_map_or}
use Rattle.std.specs.Str.{bytes_eq}
use Rattle.host_core.specs.Characters.{slash, space}
use Rattle.yang_text.specs.Declarations.{Declaration, argument, block}
use Rattle.yang_scope.specs.Identifiers.{is_identifier}
use Rattle.yang_scope.specs.Meanings.{is_colon, prefix_giver}
use Rattle.yang_scope.specs.Modules.{Module}
use Rattle.yang_scope.specs.Pieces.{pieces}
use Rattle.yang_scope.specs.Statements.{is_keyword, first_child}

abbrev path_steps : ℕ
path_steps = 4

-- a step of a path: an identifier, with or without a prefix
abbrev pub is_step : List ℕ → Bool
is_step s =
    if list_any is_colon s
    then is_identifier (before_first is_colon s) && is_identifier (after_first is_colon s)
    else is_identifier s

-- the name in a step
abbrev pub step_name : List ℕ → List ℕ
step_name s = if list_any is_colon s then after_first is_colon s else s

-- whether a module gives a prefix
abbrev pub is_prefix : List Module → ℕ → List ℕ → Bool
is_prefix modules m prefix =
    is_some (option_and_then (prefix_giver prefix) (slice_get modules m))

-- whether a module gives the prefix of a step, where it has one
abbrev pub is_prefix_given : List Module → ℕ → List ℕ → Bool
is_prefix_given modules m s =
    if list_any is_colon s then is_prefix modules m (before_first is_colon s) else true

-- nothing before the first slash, and steps behind it
abbrev pub are_steps : List (List ℕ) → Bool
are_steps [] = false
are_steps (first ∷ steps) =
    (length first == 0) && ((length steps == path_steps) && list_all is_step steps)

-- a slash, and four steps joined by slashes
abbrev pub is_path : List ℕ → Bool
is_path s = are_steps (pieces slash s)

-- whether a statement has an argument that is this name
abbrev pub is_named : List ℕ → Declaration → Bool
is_named name d = option_map_or (bytes_eq name) (argument d) false

-- the first statement of a keyword and a name in another one
abbrev pub child_named : List ℕ → List ℕ → Declaration → Option Declaration
child_named word name d = find (λ e. is_keyword word e && is_named name e) (block d)

-- a statement, and the number of its module
abbrev pub Placed : Type 0
Placed = ℕ × Declaration

-- what the first module gives that gives something
abbrev pub first_given : (ℕ → Module → Option Placed) → ℕ → List Module → Option Placed
first_given f number [] = None
first_given f number (m ∷ modules) =
    option_map_or Some (f number m) (first_given f (suc number) modules)

-- the container of a module, by its name
abbrev pub container_named : List Module → List ℕ → Option Placed
container_named modules name =
    first_given
    (λ number m. option_map (λ d. (number, d)) (child_named (codes "container") name m.statement))
    0 modules

-- whether the key of a list has a name
abbrev pub is_key_of : Declaration → List ℕ → Bool
is_key_of d name =
    option_map_or (λ key. list_any (bytes_eq name) (pieces space key))
    (option_and_then argument (first_child (codes "key") d)) false

-- a leaf of a list that is a key leaf
abbrev pub key_leaf_in : List ℕ → Declaration → Option Declaration
key_leaf_in name d = if is_key_of d name then child_named (codes "leaf") name d else None

-- a key leaf of a list of a table
abbrev pub key_leaf_below : List ℕ → List ℕ → List ℕ → Declaration → Option Declaration
key_leaf_below table list leaf d =
    option_and_then (key_leaf_in leaf)
    (option_and_then (child_named (codes "list") list)
    (child_named (codes "container") table d))

-- the key leaf of four names
abbrev pub key_leaf : List Module → List ℕ → List ℕ → List ℕ → List ℕ → Option Placed
key_leaf modules container table list leaf =
    option_and_then
    (λ c. option_map (λ d. (c.0, d)) (key_leaf_below table list leaf c.1))
    (container_named modules container)

-- the key leaf that the pieces of a path lead to
abbrev pub leaf_at_end : List Module → ℕ → List (List ℕ) → Option Placed
leaf_at_end modules m (first ∷ c ∷ t ∷ l ∷ k ∷ []) =
    if list_all (is_prefix_given modules m) (c ∷ t ∷ l ∷ k ∷ [])
    then key_leaf modules (step_name c) (step_name t) (step_name l) (step_name k)
    else None
leaf_at_end modules m _ = None

-- the key leaf that a path in a module leads to
abbrev pub path_end : List Module → ℕ → List ℕ → Option Placed
path_end modules m s = leaf_at_end modules m (pieces slash s)
