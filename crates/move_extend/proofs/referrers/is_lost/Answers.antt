use Rattle.std.proofs.Common.{sym, ◌∙◌, true≢false}
use Rattle.std.proofs.lemmas.Bool.{false≢true}
use Rattle.move_extend.proofs.referrers.is_lost.Goals as goal

pub returns-then-not-may_have : goal.returns-then-not-may_have
returns-then-not-may_have c = (
  λ e. absurd (false≢true e),
  λ broken. absurd (true≢false (sym (c.may_have.ensures (c.requires broken)) ∙ c.if-not-may_have.true)),
)
