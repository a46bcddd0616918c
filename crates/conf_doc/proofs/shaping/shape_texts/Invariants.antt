use Rattle.std.proofs.Common.{map}
use Rattle.std.specs.Vec.Iter.{into_iter_items}
use Rattle.conf_doc.specs.Document.{items_of}
use Rattle.conf_doc.specs.Trees.{document}
use Rattle.conf_doc.specs.WellFormed.{AreTexts}
use Rattle.conf_doc.proofs.Shapings.{TextsWalk}
use Rattle.conf_doc.proofs.shaping.shape_texts.Given as goal

abbrev pub invariant-loop-item : goal.invariant-loop-item
invariant-loop-item l = record {
  walk : TextsWalk (items_of l.fn.items) (items_of (map document (into_iter_items l.item-iterator))) l.texts;
  formed : AreTexts l.texts;
}
