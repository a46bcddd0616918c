use Rattle.plan_check.proofs.items.comes.Goals as goal

pub returns-then-has_text : goal.returns-then-has_text
returns-then-has_text c = (λ t. absurd cc, λ is. absurd (is.1 (c.has_text.ensures.0 c.if-has_text.true)))
