-- The steps of a path, one after another.
use Rattle.std.proofs.Common.{◌≡◌, ◌<◌, ◌≤◌, ◌+◌, ℕ, suc, zero, List, [], ◌∷◌, ◌++◌, map, drop, length, get_or, Option, Some, None, add-one, drop_of_length-le, option_and_then, sym, ap, ◌∙◌, arith}
use Rattle.std.specs.List.{flat_map}
use Rattle.std.specs.Option.{option_map_or}
use Rattle.std.proofs.Math.Seq.{drop-cons}
use Rattle.yang_scope.specs.Modules.{Module}
use Rattle.xpath_part.specs.Expression.{Strides, no_strides, stride, stride_weight, strides_weight, Predicates, no_predicates, predicate, strides_of, predicates_of, Term, path, literal, term_weight}
use Rattle.xpath_part.specs.Expressions.{expression, step_of}
use Rattle.xpath_part.specs.declared.expressions.Expr.{Expr}
use Rattle.xpath_part.specs.declared.expressions.Step.{Step}
use Rattle.xpath_part.proofs.Weights.{strides_weigh}
use Rattle.yang_must.specs.Routes.{Route, spot_after, end_of, spots_along, table_at, inner_routes, step_routes}
use Rattle.yang_must.specs.Spots.{Spot}

-- the element at an index, and those behind it
drop-here : {X : Type 0} (xs : List X) (i : ℕ) (x : X) → i < length xs → get_or xs i x ≡ x → drop i xs ≡ x ∷ drop (i + 1) xs
drop-here xs i x within is = drop-cons xs i x within ∙ ap (λ y. y ∷ drop (suc i) xs) is ∙ ap (λ n. x ∷ drop n xs) (sym (add-one i))

-- nothing stands past the end
drop-past : {X : Type 0} (xs : List X) (i : ℕ) → length xs ≤ i → drop i xs ≡ []
drop-past xs i past = drop_of_length-le xs past

abbrev steps_from : List Step → ℕ → Strides
steps_from xs i = strides_of (map step_of (drop i xs))

pub steps-here : (xs : List Step) (i : ℕ) (x : Step) → i < length xs → get_or xs i x ≡ x → steps_from xs i ≡ stride (step_of x) (steps_from xs (i + 1))
steps-here xs i x within is = ap (λ ys. strides_of (map step_of ys)) (drop-here xs i x within is)

pub steps-past : (xs : List Step) (i : ℕ) → length xs ≤ i → steps_from xs i ≡ no_strides
steps-past xs i past = ap (λ ys. strides_of (map step_of ys)) (drop-past xs i past)

abbrev tests_from : List Expr → ℕ → Predicates
tests_from xs i = predicates_of (map expression (drop i xs))

pub tests-here : (xs : List Expr) (i : ℕ) (x : Expr) → i < length xs → get_or xs i x ≡ x → tests_from xs i ≡ predicate (expression x) (tests_from xs (i + 1))
tests-here xs i x within is = ap (λ ys. predicates_of (map expression ys)) (drop-here xs i x within is)

pub tests-past : (xs : List Expr) (i : ℕ) → length xs ≤ i → tests_from xs i ≡ no_predicates
tests-past xs i past = ap (λ ys. predicates_of (map expression ys)) (drop-past xs i past)

-- ---- how much steps weigh

pub step_lighter : (xs : List Step) (i : ℕ) (x : Step) → i < length xs → x ≡ get_or xs i x → stride_weight (step_of x) < strides_weight (strides_of (map step_of xs))
step_lighter [] i x within is = absurd (omega (arith, within))
step_lighter (y ∷ ys) zero x within is = let same : stride_weight (step_of x) ≡ stride_weight (step_of y) = ap (λ z. stride_weight (step_of z)) is in omega (arith, strides_weigh (strides_of (map step_of ys)))
step_lighter (y ∷ ys) (suc i) x within is = omega (arith, step_lighter ys i x (omega arith) is)

pub term_weighs : (t : Term) → 0 < term_weight t
term_weighs (path p) = omega arith
term_weighs (literal s) = omega arith

-- ---- a step that leads somewhere, and one that names nothing

module _ (modules : List Module) (m : ℕ) (xs : List Step) (i : ℕ) (x : Step) (within : i < length xs) (is : get_or xs i x ≡ x) (spot : Spot) where
  abbrev rest : Strides
  rest = steps_from xs (i + 1)

  pub end-next : (next : Spot) → spot_after modules m (step_of x) spot ≡ Some next → end_of modules m (steps_from xs i) spot ≡ end_of modules m rest next
  end-next next leads = ap (λ ss. end_of modules m ss spot) (steps-here xs i x within is) ∙ ap (option_and_then (end_of modules m rest)) leads

  pub end-none : spot_after modules m (step_of x) spot ≡ None → end_of modules m (steps_from xs i) spot ≡ None
  end-none leads = ap (λ ss. end_of modules m ss spot) (steps-here xs i x within is) ∙ ap (option_and_then (end_of modules m rest)) leads

  abbrev tables : Strides → Spot → List (List ℕ)
  tables ss at = flat_map table_at (spots_along modules m ss at)

  abbrev tables_after : Option Spot → List (List ℕ)
  tables_after o = flat_map table_at (option_map_or (λ next. next ∷ spots_along modules m rest next) o [])

  pub tables-next : (next : Spot) → spot_after modules m (step_of x) spot ≡ Some next → tables (steps_from xs i) spot ≡ table_at next ++ tables rest next
  tables-next next leads = ap (λ ss. tables ss spot) (steps-here xs i x within is) ∙ ap tables_after leads

  pub tables-none : spot_after modules m (step_of x) spot ≡ None → tables (steps_from xs i) spot ≡ []
  tables-none leads = ap (λ ss. tables ss spot) (steps-here xs i x within is) ∙ ap tables_after leads

  module _ (current : Spot) where
    abbrev inner_after : Option Spot → List Route
    inner_after o = option_map_or (λ next. step_routes modules m current (step_of x) next ++ inner_routes modules m current rest next) o []

    pub inner-next : (next : Spot) → spot_after modules m (step_of x) spot ≡ Some next
        → inner_routes modules m current (steps_from xs i) spot ≡ step_routes modules m current (step_of x) next ++ inner_routes modules m current rest next
    inner-next next leads = ap (λ ss. inner_routes modules m current ss spot) (steps-here xs i x within is) ∙ ap inner_after leads

    pub inner-none : spot_after modules m (step_of x) spot ≡ None → inner_routes modules m current (steps_from xs i) spot ≡ []
    inner-none leads = ap (λ ss. inner_routes modules m current ss spot) (steps-here xs i x within is) ∙ ap inner_after leads
