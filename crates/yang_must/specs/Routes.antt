-- The paths of an expression (XPath 1.0, section 2; RFC 7950, section 6.4.1), resolved in the models.
use Rattle.std.specs.Prelude.{ℕ, not, Bool, true, false, List, [], ◌∷◌, ◌++◌, codes, Option, Some, None, is_none, option_and_then, if◌then◌else◌}
use Rattle.std.specs.Option.{option_map_or, option_to_list}
use Rattle.yang_text.specs.Declarations.{argument}
use Rattle.yang_scope.specs.Modules.{Module}
use Rattle.yang_scope.specs.Paths.{is_prefix}
use Rattle.yang_scope.specs.Statements.{is_keyword}
use Rattle.xpath_part.specs.Expression.{Expression, or_of, and_of, not_of, alone, equal, differ, count, Term, path, literal, Path, along, Strides, no_strides, stride, Stride, up, stay, child, Predicates, no_predicates, predicate}
use Rattle.xpath_part.specs.declared.origins.Origin.{Origin}
use Rattle.xpath_part.specs.declared.origins.Origin.TheVariants.{Root, Context, Current}
use Rattle.yang_must.specs.Spots.{Spot, root, table, shape, leaf, spot_named, parent_spot}
use Rattle.yang_must.specs.declared.aims.Aim.{Aim}
use Rattle.yang_must.specs.declared.aims.Aim.TheVariants.{Nodes, Texts}

-- a prefix is the module's own or an import's; m is the number of the module
abbrev pub is_known : List Module → ℕ → Option (List ℕ) → Bool
is_known modules m prefix = option_map_or (is_prefix modules m) prefix true

-- the spot that a step leads to; apart from its prefix a name is found by its identifier alone
abbrev pub spot_after : List Module → ℕ → Stride → Spot → Option Spot
spot_after modules m up spot = parent_spot spot
spot_after modules m stay spot = Some spot
spot_after modules m (child prefix name es) spot =
    if is_known modules m prefix then spot_named modules name spot else None

-- the spot at the end of a path; None where a step names nothing
abbrev pub end_of : List Module → ℕ → Strides → Spot → Option Spot
end_of modules m no_strides spot = Some spot
end_of modules m (stride s ss) spot =
    option_and_then (end_of modules m ss) (spot_after modules m s spot)

-- the spots on which a path stands after its steps, up to one that names nothing
abbrev pub spots_along : List Module → ℕ → Strides → Spot → List Spot
spots_along modules m no_strides spot = []
spots_along modules m (stride s ss) spot =
    option_map_or (λ next. next ∷ spots_along modules m ss next) (spot_after modules m s spot) []

-- a path of an expression: what it gives, the spot that it starts from, and its steps
pub record Route : Type 0 where
  pub aim : Aim
  pub origin : Spot
  pub steps : Strides

-- by its parts
abbrev pub route : Aim → Spot → Strides → Route
route aim origin steps = record { aim = aim; origin = origin; steps = steps }

-- where a path starts
abbrev pub start_of : Spot → Origin → Spot → Spot
start_of current Root context = root
start_of current Context context = context
start_of current Current context = current

abbrev mutual
  -- the paths of an expression at a context, where `current()` means the spot current
  pub routes : List Module → ℕ → Spot → Expression → Spot → List Route
  routes modules m current (or_of a b) context =
      routes modules m current a context ++ routes modules m current b context
  routes modules m current (and_of a b) context =
      routes modules m current a context ++ routes modules m current b context
  routes modules m current (not_of a) context = routes modules m current a context
  routes modules m current (alone t) context = term_routes modules m current Nodes t context
  routes modules m current (equal l r) context =
      term_routes modules m current Texts l context
      ++ term_routes modules m current Texts r context
  routes modules m current (differ l r) context =
      term_routes modules m current Texts l context
      ++ term_routes modules m current Texts r context
  routes modules m current (count p c n) context = path_routes modules m current Nodes p context

  -- of what stands alone or on a side of a comparison
  pub term_routes : List Module → ℕ → Spot → Aim → Term → Spot → List Route
  term_routes modules m current aim (path p) context =
      path_routes modules m current aim p context
  term_routes modules m current aim (literal s) context = []

  -- a path, and those in its predicates
  pub path_routes : List Module → ℕ → Spot → Aim → Path → Spot → List Route
  path_routes modules m current aim (along o ss) context =
      route aim (start_of current o context) ss
      ∷ inner_routes modules m current ss (start_of current o context)

  -- the paths in the predicates of steps, up to a step that names nothing
  pub inner_routes : List Module → ℕ → Spot → Strides → Spot → List Route
  inner_routes modules m current no_strides spot = []
  inner_routes modules m current (stride s ss) spot =
      option_map_or
      (λ next. step_routes modules m current s next ++ inner_routes modules m current ss next)
      (spot_after modules m s spot) []

  -- of a step: in a predicate the context is the node that it filters
  pub step_routes : List Module → ℕ → Spot → Stride → Spot → List Route
  step_routes modules m current up spot = []
  step_routes modules m current stay spot = []
  step_routes modules m current (child prefix name es) spot =
      test_routes modules m current es spot

  -- of predicates
  pub test_routes : List Module → ℕ → Spot → Predicates → Spot → List Route
  test_routes modules m current no_predicates spot = []
  test_routes modules m current (predicate e es) spot =
      routes modules m current e spot ++ test_routes modules m current es spot

-- a comparison is of leaves and leaf-lists; what is alone or counted may be a list too
abbrev pub may_end_at : Aim → Spot → Bool
may_end_at aim (leaf c t s l) = true
may_end_at Nodes (shape c t s) = is_keyword (codes "list") s
may_end_at aim spot = false

-- a step of the path names nothing
abbrev pub names_nothing : List Module → ℕ → Route → Bool
names_nothing modules m r = is_none (end_of modules m r.steps r.origin)

-- the path ends where it may not
abbrev pub ends_badly : List Module → ℕ → Route → Bool
ends_badly modules m r =
    option_map_or (λ spot. not (may_end_at r.aim spot)) (end_of modules m r.steps r.origin) false

-- the table whose container a spot is
abbrev pub table_at : Spot → List (List ℕ)
table_at (table c t) = option_to_list (argument t)
table_at spot = []
