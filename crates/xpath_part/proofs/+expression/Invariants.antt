use Rattle.std.proofs.Common.{◌≤◌}
use Rattle.xpath_part.specs.declared.expressions.Branch.TheDeep.{size-Expr}
use Rattle.xpath_part.proofs.+expression.Given as goal

abbrev pub invariant-expressions::Expr::drop-loop-self :
    goal.invariant-expressions::Expr::drop-loop-self
invariant-expressions::Expr::drop-loop-self l = size-Expr l.self ≤ size-Expr l.fn.self
