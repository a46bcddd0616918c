-- An expression weighs more than what stands in it.
use Rattle.std.specs.Prelude.{◌≤◌, List, [], ◌∷◌, map, max}
use Rattle.std.proofs.Common.{arith}
use Rattle.xpath_part.specs.Expression.{weight, term_weight, path_weight, stride_weight, strides_weight, strides_of, predicates_weight, predicates_of}
use Rattle.xpath_part.specs.Expressions.{expression, term_of, path_of, step_of}
use Rattle.xpath_part.specs.declared.expressions.Expr.{Expr}
use Rattle.xpath_part.specs.declared.expressions.Expr.TheVariants.{Or, And, Not, Alone, Equal, Differ, Count}
use Rattle.xpath_part.specs.declared.expressions.Operand.{Operand}
use Rattle.xpath_part.specs.declared.expressions.Operand.TheVariants.{Walk as Walks, Literal}
use Rattle.xpath_part.specs.declared.expressions.Walk.{Walk}
use Rattle.xpath_part.specs.declared.expressions.Step.{Step}
use Rattle.xpath_part.specs.declared.expressions.Step.TheVariants.{Up, Stay, Child}
use Rattle.xpath_part.specs.declared.expressions.Branch.TheDeep.{deep-Expr, deep-Operand, deep-Walk, deep-Step}
use denote.Param.Weighed.{most, w_this}

path_falls : (w : Walk) → deep-Walk w ≤ path_weight (path_of w)
path_falls w = omega arith

term_falls : (o : Operand) → deep-Operand o ≤ term_weight (term_of o)
term_falls (Walks w) = omega (arith, path_falls w)
term_falls (Literal s) = omega arith

step_falls : (s : Step) → deep-Step s ≤ stride_weight (step_of s)
step_falls Up = omega arith
step_falls Stay = omega arith
step_falls (Child prefix name tests) = omega arith

expression_falls : (e : Expr) → deep-Expr e ≤ weight (expression e)
expression_falls (Or a b) = omega arith
expression_falls (And a b) = omega arith
expression_falls (Not a) = omega arith
expression_falls (Alone o) = omega (arith, term_falls o)
expression_falls (Equal l r) = omega (arith, term_falls l, term_falls r)
expression_falls (Differ l r) = omega (arith, term_falls l, term_falls r)
expression_falls (Count w c n) = omega (arith, path_falls w)

-- an expression is no deeper than it weighs
pub branch_falls : (e : Expr) → max (deep-Expr e) 0 ≤ weight (expression e)
branch_falls e = omega (arith, expression_falls e)

-- nor are steps
pub steps_fall :
    (ss : List Step)
    → max (most (λ s. w_this.weight _ deep-Step s) ss) 0
    ≤ strides_weight (strides_of (map step_of ss))
steps_fall [] = omega arith
steps_fall (s ∷ ss) = omega (arith, steps_fall ss, step_falls s)

-- nor are predicates
pub tests_fall :
    (es : List Expr)
    → max (most (λ e. w_this.weight _ deep-Expr e) es) 0
    ≤ predicates_weight (predicates_of (map expression es))
tests_fall [] = omega arith
tests_fall (e ∷ es) = omega (arith, tests_fall es, expression_falls e)
