use Rattle.std.proofs.Common.{inl, inr, sym, ◌∙◌, true≢false}
use Rattle.move_extend.proofs.TextSearches.{among}
use Rattle.move_extend.proofs.mentions.may_have.Goals as goal

pub returns : goal.returns
returns c = λ may. elim may [
  | inl whole ↦ absurd (true≢false (sym whole ∙ c.if-gone.false))
  | inr has ↦ c.is_among.ensures ∙ among (λ t. t.now) c.args.gone.now.parts.now c.args.text.now has
]
