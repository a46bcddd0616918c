-- An expression has one truth at nodes of two configurations that agree on the tables that its paths pass.
use Rattle.std.proofs.Common.{◌≡◌, ◌==◌, ◌&&◌, ◌||◌, not, ℕ, Bool, true, false, cond, List, [], ◌∷◌, ◌++◌, Option, Some, None, option_and_then, refl, ap, subst}
use Rattle.std.specs.List.{AllByRecursion as All, AllZip, flat_map}
use Rattle.std.specs.Option.{option_map_or}
use Rattle.std.specs.Str.{bytes_eq}
use Rattle.conf_doc.specs.Pairs.{IsRising}
use Rattle.conf_doc.specs.declared.configuration.Config.{Config}
use Rattle.xpath_part.specs.Expression.{Expression, or_of, and_of, not_of, alone, equal, differ, count, Term, path, literal, Path, along, Strides, no_strides, stride, Stride, up, stay, child, Predicates, no_predicates, predicate}
use Rattle.xpath_part.specs.Truth.{value, term_value, texts, texts_of_node, selected, walk, reached, passes, start, some_pair, are_different, compare_numbers}
use Rattle.xpath_part.specs.declared.nodes.Node.{Node}
use Rattle.xpath_part.specs.declared.origins.Origin.{Origin}
use Rattle.xpath_part.specs.declared.origins.Origin.TheVariants.{Root, Context, Current}
use Rattle.yang_scope.specs.Modules.{Module}
use Rattle.yang_must.specs.Musts.{tables_along}
use Rattle.yang_must.specs.Routes.{Route, end_of, inner_routes, is_known, path_routes, routes, spot_after, spots_along, start_of, step_routes, table_at, term_routes, test_routes}
use Rattle.yang_must.specs.Spots.{Spot, spot_named}
use Rattle.yang_model.specs.ModelSets.{ModelSet}
use Rattle.conf_check.specs.Belongings.{Belongings, AreBelongings}
use Rattle.conf_check.proofs.ListPairs.{all_left, all_right, same_each, zip_each, zip_filter, zip_length}
use Rattle.conf_check.proofs.SpotNodes.{A, Agree, At, B, children_same, parents_same, texts_same}

some_same : {A : Type 0} (x y : A) → Some x ≡ Some y → x ≡ y
some_same x y e = cc

module _ (models : ModelSet) (a b : Config) (p q : Belongings) (are_a : AreBelongings models a p) (are_b : AreBelongings models b q) (rising_a : IsRising a) (rising_b : IsRising b) (modules : List Module) (m : ℕ) where
  abbrev agree : List ℕ → Type 0
  agree = Agree models a b p q

  abbrev at : Spot → Node → Node → Type 0
  at = At models a b p q

  abbrev lists : Spot → List Node → List Node → Type 0
  lists s xs ys = AllZip (at s) xs ys

  -- a path that ends at a spot, on whose tables the configurations agree
  abbrev pub IsRight : Route → Type 0
  IsRight r = ((s : Spot) × (end_of modules m r.steps r.origin ≡ Some s)) × All agree (tables_along modules m r)

  module _ (here : Spot) (x0 y0 : Node) (at0 : at here x0 y0) where
    start_same : (o : Origin) (s : Spot) (x y : Node) → at s x y → at (start_of here o s) (start (A models a b p q) x0 o x) (start (B models a b p q) y0 o y)
    start_same Root s x y is = (refl, refl)
    start_same Context s x y is = is
    start_same Current s x y is = at0

    -- the rest of a path from each node that a step reaches
    walk_on : (s : Stride) (ss : Strides) (from end : Spot) (x y : Node) (o : Option Spot) → spot_after modules m s from ≡ o
        → option_and_then (end_of modules m ss) o ≡ Some end
        → All agree (flat_map table_at (option_map_or (λ next. next ∷ spots_along modules m ss next) o []))
        → All IsRight (option_map_or (λ next. step_routes modules m here s next ++ inner_routes modules m here ss next) o [])
        → ((next : Spot) → spot_after modules m s from ≡ Some next → All agree (table_at next) → All IsRight (step_routes modules m here s next)
        → lists next (reached (A models a b p q) x0 s x) (reached (B models a b p q) y0 s y))
        → ((next : Spot) (u v : Node) → at next u v → end_of modules m ss next ≡ Some end → All agree (flat_map table_at (spots_along modules m ss next))
        → All IsRight (inner_routes modules m here ss next) → lists end (walk (A models a b p q) x0 ss u) (walk (B models a b p q) y0 ss v))
        → lists end (walk (A models a b p q) x0 (stride s ss) x) (walk (B models a b p q) y0 (stride s ss) y)
    walk_on s ss from end x y None is e agrees rights step rest = cc
    walk_on s ss from end x y (Some next) is e agrees rights step rest =
        zip_each (at next) (at end) (walk (A models a b p q) x0 ss) (walk (B models a b p q) y0 ss)
        (λ u v same. rest next u v same e
        (all_right agree (table_at next) (flat_map table_at (spots_along modules m ss next)) agrees)
        (all_right IsRight (step_routes modules m here s next) (inner_routes modules m here ss next) rights))
        (reached (A models a b p q) x0 s x) (reached (B models a b p q) y0 s y)
        (step next is (all_left agree (table_at next) (flat_map table_at (spots_along modules m ss next)) agrees)
        (all_left IsRight (step_routes modules m here s next) (inner_routes modules m here ss next) rights))

    known_child : (c : Bool) (o : Option Spot) (next : Spot) → cond c o None ≡ Some next → o ≡ Some next
    known_child true o next e = e
    known_child false o next e = cc

    mutual
      pub value_same : (e : Expression) (s : Spot) (x y : Node) → at s x y → All IsRight (routes modules m here e s)
          → value (A models a b p q) x0 e x ≡ value (B models a b p q) y0 e y
      value_same (or_of e f) s x y is rights =
          let l = value_same e s x y is (all_left IsRight (routes modules m here e s) (routes modules m here f s) rights) in
          let r = value_same f s x y is (all_right IsRight (routes modules m here e s) (routes modules m here f s) rights) in
          λ i. l i || r i
      value_same (and_of e f) s x y is rights =
          let l = value_same e s x y is (all_left IsRight (routes modules m here e s) (routes modules m here f s) rights) in
          let r = value_same f s x y is (all_right IsRight (routes modules m here e s) (routes modules m here f s) rights) in
          λ i. l i && r i
      value_same (not_of e) s x y is rights = ap not (value_same e s x y is rights)
      value_same (alone t) s x y is rights = term_same t _ s x y is rights
      value_same (equal l r) s x y is rights =
          let u = sides_same l _ s x y is (all_left IsRight _ _ rights) in
          let v = sides_same r _ s x y is (all_right IsRight _ _ rights) in
          λ i. some_pair bytes_eq (u i) (v i)
      value_same (differ l r) s x y is rights =
          let u = sides_same l _ s x y is (all_left IsRight _ _ rights) in
          let v = sides_same r _ s x y is (all_right IsRight _ _ rights) in
          λ i. some_pair are_different (u i) (v i)
      value_same (count w c n) s x y is rights =
          let z = selected_same w _ s x y is rights in
          ap (λ k. compare_numbers c k n) (zip_length (at z.0) (selected (A models a b p q) x0 w x) (selected (B models a b p q) y0 w y) z.1)

      term_same : (t : Term) (aim : _) (s : Spot) (x y : Node) → at s x y → All IsRight (term_routes modules m here aim t s)
          → term_value (A models a b p q) x0 t x ≡ term_value (B models a b p q) y0 t y
      term_same (path w) aim s x y is rights =
          let z = selected_same w aim s x y is rights in
          ap (λ k. not (k == 0)) (zip_length (at z.0) (selected (A models a b p q) x0 w x) (selected (B models a b p q) y0 w y) z.1)
      term_same (literal t) aim s x y is rights = refl

      sides_same : (t : Term) (aim : _) (s : Spot) (x y : Node) → at s x y → All IsRight (term_routes modules m here aim t s)
          → texts (A models a b p q) x0 t x ≡ texts (B models a b p q) y0 t y
      sides_same (path w) aim s x y is rights =
          let z = selected_same w aim s x y is rights in
          same_each (at z.0) (texts_of_node (A models a b p q)) (texts_of_node (B models a b p q))
          (λ u v same. texts_same models a b p q are_a are_b rising_a rising_b z.0 u v same)
          (selected (A models a b p q) x0 w x) (selected (B models a b p q) y0 w y) z.1
      sides_same (literal t) aim s x y is rights = refl

      selected_same : (w : Path) (aim : _) (s : Spot) (x y : Node) → at s x y → All IsRight (path_routes modules m here aim w s)
          → (end : Spot) × lists end (selected (A models a b p q) x0 w x) (selected (B models a b p q) y0 w y)
      selected_same (along o ss) aim s x y is rights = (
        rights.0.0.0,
        walk_same ss (start_of here o s) rights.0.0.0 (start (A models a b p q) x0 o x) (start (B models a b p q) y0 o y) (start_same o s x y is) rights.0.0.1 rights.0.1 rights.1,
      )

      walk_same : (ss : Strides) (from end : Spot) (x y : Node) → at from x y → end_of modules m ss from ≡ Some end
          → All agree (flat_map table_at (spots_along modules m ss from)) → All IsRight (inner_routes modules m here ss from)
          → lists end (walk (A models a b p q) x0 ss x) (walk (B models a b p q) y0 ss y)
      walk_same no_strides from end x y is e agrees rights = (subst (λ s. at s x y) (some_same from end e) is, tt)
      walk_same (stride s ss) from end x y is e agrees rights =
          walk_on s ss from end x y (spot_after modules m s from) refl e agrees rights
          (λ next after passed inner. reached_same s from next x y is after passed inner)
          (λ next u v same e passed inner. walk_same ss next end u v same e passed inner)

      reached_same : (s : Stride) (from next : Spot) (x y : Node) → at from x y → spot_after modules m s from ≡ Some next → All agree (table_at next)
          → All IsRight (step_routes modules m here s next) → lists next (reached (A models a b p q) x0 s x) (reached (B models a b p q) y0 s y)
      reached_same up from next x y is e agrees rights = parents_same models a b p q are_a are_b rising_a rising_b from next x y is e agrees
      reached_same stay from next x y is e agrees rights = (subst (λ s. at s x y) (some_same from next e) is, tt)
      reached_same (child prefix name es) from next x y is e agrees rights =
          zip_filter (at next) (passes (A models a b p q) x0 es) (passes (B models a b p q) y0 es)
          (λ u v same. passes_same es next u v same rights)
          ((A models a b p q).children x name) ((B models a b p q).children y name)
          (children_same models a b p q are_a are_b rising_a rising_b modules from next name x y is
          (known_child (is_known modules m prefix) (spot_named modules name from) next e) agrees)

      passes_same : (es : Predicates) (s : Spot) (x y : Node) → at s x y → All IsRight (test_routes modules m here es s)
          → passes (A models a b p q) x0 es x ≡ passes (B models a b p q) y0 es y
      passes_same no_predicates s x y is rights = refl
      passes_same (predicate e es) s x y is rights =
          let l = value_same e s x y is (all_left IsRight (routes modules m here e s) (test_routes modules m here es s) rights) in
          let r = passes_same es s x y is (all_right IsRight (routes modules m here e s) (test_routes modules m here es s) rights) in
          λ i. l i && r i
