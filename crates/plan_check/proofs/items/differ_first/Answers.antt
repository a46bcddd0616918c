use Rattle.plan_check.proofs.Loops.{not_so}
use Rattle.plan_check.proofs.items.differ_first.Goals as goal

pub returns-then-agree_at : goal.returns-then-agree_at
returns-then-agree_at c = (λ t. absurd (cc), λ is. absurd (is.differs (c.agree_at.ensures.0 c.if-agree_at.true)))

pub returns : goal.returns
returns c = (
  λ t. record { before = c.agree_before.ensures.0 t; differs = not_so c.agree_at.result c.agree_at.ensures.1 c.if-agree_at.false },
  λ is. c.agree_before.ensures.1 is.before,
)
