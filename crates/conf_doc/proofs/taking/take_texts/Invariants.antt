use Rattle.std.proofs.Common.{◌≡◌, ◌++◌, map}
use Rattle.std.specs.Vec.Iter.{into_iter_items}
use Rattle.conf_doc.specs.Document.{text}
use Rattle.conf_doc.proofs.taking.take_texts.Given as goal

abbrev pub invariant-loop-text : goal.invariant-loop-text
invariant-loop-text l = l.items ++ map text (into_iter_items l.text-iterator) ≡ map text l.fn.texts
