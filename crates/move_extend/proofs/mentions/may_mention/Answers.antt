use Rattle.std.proofs.Common.{inl, inr, sym, ◌∙◌, true≢false}
use Rattle.move_extend.proofs.mentions.may_mention.Goals as goal

pub returns : goal.returns
returns c = λ short m. elim m.may [
  | inl whole ↦ absurd (true≢false (sym whole ∙ c.if-gone.false))
  | inr part ↦ c.mentions_one.ensures short (record { text = m.text; part = part; has = m.has })
]
