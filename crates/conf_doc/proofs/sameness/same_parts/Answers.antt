use Rattle.std.proofs.Common.{◌∙◌, sym, refl, arith}
use Rattle.conf_doc.proofs.Equalities.{all_same}
use Rattle.conf_doc.proofs.sameness.same_parts.Goals as goal

pub returns : goal.returns
returns g c = (λ yes. all_same _ _ (sym c.len.ensures.len ∙ c.if-len.false ∙ c.len-2.ensures.len) (λ k within. c.loop-i.invariant k (omega arith)), λ e. refl)
