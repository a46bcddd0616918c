use Rattle.std.proofs.Common.{map}
use Rattle.std.specs.Vec.Iter.{into_iter_items}
use Rattle.conf_doc.specs.Document.{members_of}
use Rattle.conf_doc.specs.Shared.{pairs_of}
use Rattle.conf_doc.specs.Trees.{named_document}
use Rattle.conf_doc.specs.WellFormed.{AreTexts, Each}
use Rattle.conf_doc.proofs.Shapings.{PartsWalk}
use Rattle.conf_doc.proofs.shaping.shape_parts.Given as goal

abbrev pub invariant-loop-name : goal.invariant-loop-name
invariant-loop-name g l = record {
  walk : PartsWalk g.X.Shaped.shape (members_of l.fn.members) (members_of (map named_document (into_iter_items l.name-iterator))) (pairs_of l.pairs.items);
  texts : AreTexts (map (λ p. p.0) (pairs_of l.pairs.items));
  formed : Each g.X.Shaped.IsWell (pairs_of l.pairs.items);
}
