-- How much there is of what is sought, and of what stands in a list.
use Rattle.std.proofs.Common.{◌≡◌, ℕ, zero, suc, ◌<◌, List, [], ◌∷◌, length, map, get_or, ap, arith}
use Rattle.xpath_part.specs.Expression.{weight, term_weight, Strides, no_strides, stride, strides_weight, Predicates, no_predicates, predicate, predicates_weight, predicates_of}
use Rattle.xpath_part.specs.Expressions.{expression, term_of}
use Rattle.xpath_part.specs.declared.expressions.Expr.{Expr}
use Rattle.xpath_part.specs.declared.sought.Sought.{Sought}
use Rattle.xpath_part.specs.declared.sought.Sought.TheVariants.{Any, Text, Against}

abbrev pub sought_weight : Sought → ℕ
sought_weight Any = 0
sought_weight (Text r s) = 0
sought_weight (Against r o x) = suc (term_weight (term_of o.now))

-- everything weighs something
pub strides_weigh : (ss : Strides) → 0 < strides_weight ss
strides_weigh no_strides = omega arith
strides_weigh (stride s ss) = omega arith

pub predicates_weigh : (es : Predicates) → 0 < predicates_weight es
predicates_weigh no_predicates = omega arith
predicates_weigh (predicate e es) = omega arith

-- one of some tests is lighter than all of them
pub test_lighter : (es : List Expr) (i : ℕ) (e : Expr) → i < length es → e ≡ get_or es i e → weight (expression e) < predicates_weight (predicates_of (map expression es))
test_lighter [] i e within is = absurd (omega arith)
test_lighter (d ∷ es) zero e within is = let same : weight (expression e) ≡ weight (expression d) = ap (λ x. weight (expression x)) is in omega (arith, predicates_weigh (predicates_of (map expression es)))
test_lighter (d ∷ es) (suc i) e within is = omega (arith, test_lighter es i e (omega arith) is)
