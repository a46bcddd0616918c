use Rattle.std.proofs.Common.{arith}
use Rattle.plan_check.proofs.ListFronts.{agree_below, agree_more}
use Rattle.plan_check.proofs.Loops.{not_so}
use Rattle.plan_check.proofs.items.agree_before.Goals as goal

pub returns-then-not-agree_at : goal.returns-then-not-agree_at
returns-then-not-agree_at c = (
  λ t. absurd (cc),
  λ alike. absurd
      (not_so c.agree_at.result c.agree_at.ensures.1 c.if-not-agree_at.true
      (agree_below c.args.old.now c.args.new.now c.args.end c.loop-i.i (omega arith) alike)),
)

pub loop-i-preserved : goal.loop-i-preserved
loop-i-preserved c = agree_more c.args.old.now c.args.new.now c.loop-i.i c.loop-i.invariant (c.agree_at.ensures.0 c.if-not-agree_at.false)
