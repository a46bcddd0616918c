use Rattle.plan_check.proofs.Loops.{negated, not_so}
use Rattle.plan_check.proofs.required.differs_at.Goals as goal

pub returns-then-not-has_key_part : goal.returns-then-not-has_key_part
returns-then-not-has_key_part c = (
  λ t. absurd (cc),
  λ d. absurd (not_so c.has_key_part.result c.has_key_part.ensures.1 c.if-not-has_key_part.true d.part),
)

pub returns : goal.returns
returns c = (
  λ t. record { part = c.has_key_part.ensures.0 c.if-not-has_key_part.false; differs = (negated c.stays.result c.stays.ensures).0 t },
  λ d. (negated c.stays.result c.stays.ensures).1 d.differs,
)
