use Rattle.std.proofs.Common.{◌≡◌, map, take}
use Rattle.conf_doc.specs.Document.{text}
use Rattle.conf_doc.proofs.writing.items_of_texts.Given as goal

abbrev pub invariant-loop-text : goal.invariant-loop-text
invariant-loop-text l = l.items ≡ map text (take l.text-index l.text-items)
