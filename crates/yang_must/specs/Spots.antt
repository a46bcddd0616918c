-- The tree of the models (RFC 7950, section 5.1), in which the paths of musts are resolved.
use Rattle.std.specs.Prelude.{ℕ, ◌||◌, Bool, List, map, codes, filter, Option, Some, None, option_map}
use Rattle.std.specs.List.{find}
use Rattle.yang_text.specs.Declarations.{Declaration, block}
use Rattle.yang_scope.specs.Modules.{Module}
use Rattle.yang_scope.specs.Nodes.{is_shape}
use Rattle.yang_scope.specs.Paths.{is_named}
use Rattle.yang_scope.specs.Statements.{is_keyword, children_of, each_from}

-- a spot of the tree, with the statements that lead to it
pub data Spot : Type 0 where
  -- above the modules
  root : Spot
  -- a module's container
  container : Declaration → Spot
  -- a table's container in one of a module
  table : Declaration → Declaration → Spot
  -- a list or a fixed container in one of a table
  shape : Declaration → Declaration → Declaration → Spot
  -- a leaf or a leaf-list in a list or a fixed container
  leaf : Declaration → Declaration → Declaration → Declaration → Spot

-- a container of a module, with the module's file and number
pub record ModelContainer : Type 0 where
  pub file : ℕ
  pub number : ℕ
  pub statement : Declaration

-- by its parts
abbrev pub container_at : ℕ → ℕ → Declaration → ModelContainer
container_at file number d = record { file = file; number = number; statement = d }

-- the containers of a module
abbrev pub containers_in : ℕ → Module → List ModelContainer
containers_in number m =
    map (container_at m.file number) (children_of (codes "container") m.statement)

-- those of all modules
abbrev pub containers_of : List Module → List ModelContainer
containers_of modules = each_from containers_in 0 modules

-- the containers of the tables in one of a module
abbrev pub tables_of : Declaration → List Declaration
tables_of d = children_of (codes "container") d

-- the lists and fixed containers in a table's container
abbrev pub shapes_of : Declaration → List Declaration
shapes_of d = filter is_shape (block d)

-- a leaf or a leaf-list
abbrev pub is_leaf : Declaration → Bool
is_leaf d = is_keyword (codes "leaf") d || is_keyword (codes "leaf-list") d

-- the leaves and leaf-lists in a list or a fixed container
abbrev pub leaves_of : Declaration → List Declaration
leaves_of d = filter is_leaf (block d)

-- the spot of a name below another one: of several statements with one name the first
abbrev pub spot_named : List Module → List ℕ → Spot → Option Spot
spot_named modules name root =
    option_map (λ x. container x.statement)
    (find (λ x. is_named name x.statement) (containers_of modules))
spot_named modules name (container c) = option_map (table c) (find (is_named name) (tables_of c))
spot_named modules name (table c t) =
    option_map (shape c t) (find (is_named name) (shapes_of t))
spot_named modules name (shape c t s) =
    option_map (leaf c t s) (find (is_named name) (leaves_of s))
spot_named modules name (leaf c t s l) = None

-- the spot above another one: none above the root
abbrev pub parent_spot : Spot → Option Spot
parent_spot root = None
parent_spot (container c) = Some root
parent_spot (table c t) = Some (container c)
parent_spot (shape c t s) = Some (table c t)
parent_spot (leaf c t s l) = Some (shape c t s)
