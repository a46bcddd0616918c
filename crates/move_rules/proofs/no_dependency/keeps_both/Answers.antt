use Rattle.move_rules.proofs.no_dependency.keeps_both.Goals as goal

pub returns-then-keeps_wants : goal.returns-then-keeps_wants
returns-then-keeps_wants c = (
  λ t. (c.keeps_wants.ensures.0 c.if-keeps_wants.true, c.keeps_wants-then-keeps_wants.ensures.0 t),
  λ both. c.keeps_wants-then-keeps_wants.ensures.1 both.1,
)
