-- What is wrong with the musts of the models (RFC 7950, section 7.5.3), and what each is as a value.
use Rattle.std.specs.Prelude.{◌≡◌, ◌↔◌, ◌||◌, ℕ, List, [], ◌∷◌, ◌++◌, map, codes, Option, Some, None, option_and_then, if◌then◌else◌}
use Rattle.std.specs.List.{flat_map, list_any}
use Rattle.std.specs.Option.{option_map_or}
use Rattle.std.specs.FinMap.{keys, from_entries}
use Rattle.host_core.specs.Names.{name_cmp}
use Rattle.yang_text.specs.Declarations.{Declaration, argument, block}
use Rattle.yang_text.specs.declared.errors.ModelWhy.TheVariants.{UnknownName, BadExpr}
use Rattle.yang_scope.specs.Faults.{fault_at}
use Rattle.yang_scope.specs.Modules.{Module}
use Rattle.yang_scope.specs.Statements.{is_keyword}
use Rattle.yang_scope.specs.declared.faults.Fault.{Fault}
use Rattle.xpath_part.specs.Expression.{Expression}
use Rattle.xpath_part.specs.Grammar.{IsExpression}
use Rattle.yang_must.specs.Spots.{Spot, shape, leaf, ModelContainer, containers_of, tables_of, shapes_of}
use Rattle.yang_must.specs.Routes.{Route, routes, spots_along, names_nothing, ends_badly, table_at}

-- a function that gives the expression of each text that spells one
pub record ReadsExpressions (read : List ℕ → Option Expression) : Type 0 where
  pub reads : (s : List ℕ) (e : Expression) → (read s ≡ Some e) ↔ IsExpression s e

-- UnknownName: a path with a prefix or a step that names nothing; BadExpr: one that ends where it may not
abbrev pub route_faults : List Module → ℕ → ℕ → Declaration → List Route → List Fault
route_faults modules file m d rs =
    (if list_any (names_nothing modules m) rs then fault_at file UnknownName d ∷ [] else [])
    ++ (if list_any (ends_badly modules m) rs then fault_at file BadExpr d ∷ [] else [])

-- BadExpr: a must at a spot whose argument is no expression; else what is wrong with its paths
abbrev pub must_faults : (List ℕ → Option Expression) → List Module → ℕ → ℕ → Spot → Declaration
    → List Fault
must_faults read modules file m spot d =
    option_map_or
    (λ s.
    option_map_or (λ e. route_faults modules file m d (routes modules m spot e spot))
    (read s)
    (fault_at file BadExpr d ∷ []))
    (argument d) []

-- of a statement at a spot, where it is a must
abbrev pub if_must : (List ℕ → Option Expression) → List Module → ModelContainer → Spot
    → Declaration → List Fault
if_must read modules x spot d =
    if is_keyword (codes "must") d then must_faults read modules x.file x.number spot d else []

-- of the musts of a leaf; other statements have none
abbrev pub if_leaf : (List ℕ → Option Expression) → List Module → ModelContainer → Spot
    → Declaration → List Fault
if_leaf read modules x spot d =
    if is_keyword (codes "leaf") d then flat_map (if_must read modules x spot) (block d) else []

-- of a statement in a list or a fixed container: a must of it, or the musts of a leaf
abbrev pub in_shape_faults : (List ℕ → Option Expression) → List Module → ModelContainer
    → Declaration → Declaration → Declaration → List Fault
in_shape_faults read modules x t s d =
    if_must read modules x (shape x.statement t s) d
    ++ if_leaf read modules x (leaf x.statement t s d) d

-- of a list or a fixed container in a table's container
abbrev pub shape_faults : (List ℕ → Option Expression) → List Module → ModelContainer
    → Declaration → Declaration → List Fault
shape_faults read modules x t s = flat_map (in_shape_faults read modules x t s) (block s)

-- of a table's container
abbrev pub table_faults : (List ℕ → Option Expression) → List Module → ModelContainer
    → Declaration → List Fault
table_faults read modules x t = flat_map (shape_faults read modules x t) (shapes_of t)

-- of a module's container
abbrev pub container_faults : (List ℕ → Option Expression) → List Module → ModelContainer
    → List Fault
container_faults read modules x =
    flat_map (table_faults read modules x) (tables_of x.statement)

-- of all musts of the modules
abbrev pub all_must_faults : (List ℕ → Option Expression) → List Module → List Fault
all_must_faults read modules =
    flat_map (container_faults read modules) (containers_of modules)

-- the tables on whose containers a path stands after some step
abbrev pub tables_along : List Module → ℕ → Route → List (List ℕ)
tables_along modules m r = flat_map table_at (spots_along modules m r.steps r.origin)

-- a name as a key with nothing at it
abbrev pub mark : List ℕ → List ℕ × Unit {0}
mark name = (name, tt)

-- names in the order of their bytes, each once
abbrev pub in_order : List (List ℕ) → List (List ℕ)
in_order names = keys (from_entries {R = name_cmp} (map mark names))

-- the tables that the paths of an expression read
abbrev pub tables_read : List Module → ℕ → List Route → List (List ℕ)
tables_read modules m rs = in_order (flat_map (tables_along modules m) rs)

-- a must as a value: its expression, and the tables that it reads
pub record Must : Type 0 where
  pub expression : Expression
  pub reads : List (List ℕ)

-- what an expression is as a must, where all its paths are right
abbrev pub must_by : List Module → ℕ → Expression → List Route → Option Must
must_by modules m e rs =
    if list_any (names_nothing modules m) rs || list_any (ends_badly modules m) rs then None
    else Some (record { expression = e; reads = tables_read modules m rs })

-- what a must at a spot is; None where something is wrong with it
abbrev pub must_of : (List ℕ → Option Expression) → List Module → ℕ → Spot → Declaration
    → Option Must
must_of read modules m spot d =
    option_and_then (λ e. must_by modules m e (routes modules m spot e spot))
    (option_and_then read (argument d))
