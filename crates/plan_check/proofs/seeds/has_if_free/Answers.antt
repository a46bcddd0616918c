use Rattle.plan_check.proofs.Loops.{negated, not_so}
use Rattle.plan_check.proofs.seeds.has_if_free.Goals as goal

pub returns : goal.returns
returns c = (
  λ t free. absurd ((negated c.in_ok-free.free c.in_ok-free.ensures).0 t free),
  λ has. (negated c.in_ok-free.free c.in_ok-free.ensures).1
      (λ free. not_so c.has_field.result c.has_field.ensures.1 c.if-has_field.false (has free)),
)
