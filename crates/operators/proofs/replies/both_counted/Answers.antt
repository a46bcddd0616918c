use Rattle.std.proofs.Common.{append_assoc, ◌∙◌}
use Rattle.std.proofs.lemmas.Result.{IfOk-weaker}
use Rattle.operators.proofs.replies.both_counted.Goals as goal

pub returns : goal.returns
returns c =
    IfOk-weaker c.bytes_of.result _ _ (λ b h. h ∙ c.as_str.ensures.value ∙ simp append_assoc c.in_ok-line.ensures.ok)
    c.bytes_of.ensures
