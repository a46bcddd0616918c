use Rattle.std.proofs.Common.{◌∙◌}
use Rattle.conf_doc.specs.Order.{pairs_eq}
use Rattle.conf_doc.proofs.ItemMaps.{eq_shared}
use Rattle.conf_doc.proofs.comparisons.SortedPartialEq.eq.Goals as goal

pub returns : goal.returns
returns g c = c.eq.ensures ∙ eq_shared g.X.PartialEq.eq c.pairs.result.now c.pairs-2.result.now ∙ (λ i. pairs_eq g.X.PartialEq.eq (c.pairs.ensures i) (c.pairs-2.ensures i))
