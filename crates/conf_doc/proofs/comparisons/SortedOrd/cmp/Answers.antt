use Rattle.std.proofs.Common.{◌∙◌}
use Rattle.conf_doc.specs.Order.{pairs_cmp}
use Rattle.conf_doc.proofs.ItemMaps.{cmp_shared}
use Rattle.conf_doc.proofs.comparisons.SortedOrd.cmp.Goals as goal

pub returns : goal.returns
returns g c = c.cmp.ensures ∙ cmp_shared g.X.Ord.cmp c.pairs.result.now c.pairs-2.result.now ∙ (λ i. pairs_cmp g.X.Ord.cmp (c.pairs.ensures i) (c.pairs-2.ensures i))
