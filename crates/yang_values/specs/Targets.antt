-- What a leafref's path leads to, as a key part of a shape of a table (RFC 7950, section 9.9.2).
use Rattle.std.specs.Prelude.{ℕ, suc, ◌==◌, ◌&&◌, ◌||◌, not, Bool, List, [], ◌∷◌, length, filter, Option, Some, None, codes, option_and_then, if◌then◌else◌}
use Rattle.std.specs.Str.{bytes_eq}
use Rattle.host_core.specs.Characters.{slash, space}
use Rattle.yang_text.specs.Declarations.{Declaration, argument, block}
use Rattle.yang_types.specs.declared.types.Target.{Target}
use Rattle.yang_scope.specs.Modules.{Module}
use Rattle.yang_scope.specs.Nodes.{is_shape}
use Rattle.yang_scope.specs.Paths.{Placed, step_name, is_named, child_named, container_named}
use Rattle.yang_scope.specs.Pieces.{pieces}
use Rattle.yang_scope.specs.Statements.{is_keyword, first_child}

-- the place of the first element that passes, where the first of all has a place
abbrev pub place_from : {X : Type 0} → (X → Bool) → ℕ → List X → Option ℕ
place_from test place [] = None
place_from test place (x ∷ xs) = if test x then Some place else place_from test (suc place) xs

-- the list of a name
abbrev pub is_list_named : List ℕ → Declaration → Bool
is_list_named name d = is_keyword (codes "list") d && is_named name d

-- the number of a list among the shapes of its table
abbrev pub shape_of : List ℕ → Declaration → Option ℕ
shape_of list d = place_from (is_list_named list) 0 (filter is_shape (block d))

-- a name that is there
abbrev pub is_filled : List ℕ → Bool
is_filled name = not (length name == 0)

-- the number of a leaf among the names of a key, which stand between spaces
abbrev pub part_of_key : List ℕ → List ℕ → Option ℕ
part_of_key leaf key = place_from (bytes_eq leaf) 0 (filter is_filled (pieces space key))

-- the number of a leaf among the names of the key of a list
abbrev pub part_in : List ℕ → Declaration → Option ℕ
part_in leaf d =
    option_and_then (part_of_key leaf)
    (option_and_then argument (first_child (codes "key") d))

-- a key part of a shape of a table, both counted from 0
abbrev pub target : List ℕ → Option ℕ → Option ℕ → Option Target
target table None part = None
target table (Some shape) None = None
target table (Some shape) (Some part) =
    Some (record { table = table; shape = shape; part = part })

-- the number of a leaf among the names of the key of a list of a table
abbrev pub part_below : List ℕ → List ℕ → Declaration → Option ℕ
part_below list leaf d = option_and_then (part_in leaf) (child_named (codes "list") list d)

-- of the names of a table, a list and a leaf in a container
abbrev pub target_below : List ℕ → List ℕ → List ℕ → Declaration → Option Target
target_below table list leaf d =
    option_and_then (λ t. target table (shape_of list t) (part_below list leaf t))
    (child_named (codes "container") table d)

-- of the pieces of a path
abbrev pub target_of_pieces : List Module → List (List ℕ) → Option Target
target_of_pieces modules (first ∷ c ∷ t ∷ l ∷ k ∷ []) =
    option_and_then (λ d. target_below (step_name t) (step_name l) (step_name k) d.1)
    (container_named modules (step_name c))
target_of_pieces modules _ = None

-- of a path
abbrev pub target_of : List Module → List ℕ → Option Target
target_of modules s = target_of_pieces modules (pieces slash s)

-- the key part that a leaf of a list is, where that is there with its number among the shapes
abbrev pub target_in : List ℕ → List ℕ → Option Placed → Option Target
target_in table leaf list =
    option_and_then (λ l. target table (Some l.0) (part_in leaf l.1)) list
