use Rattle.std.proofs.Common.{◌≡◌, ◌∷◌, ◌++◌, take}
use Rattle.json.specs.Token.{begin_array}
use Rattle.conf_doc.specs.Document.{text}
use Rattle.conf_doc.specs.Tokens.{opened_items}
use Rattle.conf_doc.proofs.writing.write_texts.Given as goal

abbrev pub invariant-loop-text : goal.invariant-loop-text
invariant-loop-text l = l.out ≡ l.fn.out ++ begin_array ∷ opened_items text (take l.text-index l.text-items)
