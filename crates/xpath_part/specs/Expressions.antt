-- The expression that an `Expr` is.
use Rattle.xpath_part.specs.Expression.{Expression, or_of, and_of, not_of, alone, equal, differ, count, Term, path, literal, Path, along, Stride, up, stay, child, strides_of, predicates_of}
use Rattle.xpath_part.specs.declared.expressions.Expr.{Expr}
use Rattle.xpath_part.specs.declared.expressions.Expr.TheVariants.{Or, And, Not, Alone, Equal, Differ, Count}
use Rattle.xpath_part.specs.declared.expressions.Operand.{Operand}
use Rattle.xpath_part.specs.declared.expressions.Operand.TheVariants.{Walk as Walks, Literal}
use Rattle.xpath_part.specs.declared.expressions.Walk.{Walk}
use Rattle.xpath_part.specs.declared.expressions.Step.{Step}
use Rattle.xpath_part.specs.declared.expressions.Step.TheVariants.{Up, Stay, Child}

-- the path of a walk
abbrev pub path_of : Walk → Path
path_of w = along w.origin (strides_of w.steps)

-- what an operand is
abbrev pub term_of : Operand → Term
term_of (Walks w) = path (path_of w)
term_of (Literal s) = literal s

-- the step that is read
abbrev pub step_of : Step → Stride
step_of Up = up
step_of Stay = stay
step_of (Child prefix name tests) = child prefix name (predicates_of tests)

-- the expression that is read
abbrev pub expression : Expr → Expression
expression (Or a b) = or_of a b
expression (And a b) = and_of a b
expression (Not a) = not_of a
expression (Alone o) = alone (term_of o)
expression (Equal l r) = equal (term_of l) (term_of r)
expression (Differ l r) = differ (term_of l) (term_of r)
expression (Count w c n) = count (path_of w) c n
