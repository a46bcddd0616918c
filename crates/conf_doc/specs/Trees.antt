-- The document that a `Tree` is.
use Rattle.std.specs.Prelude.{ℕ, List as Sequence}
use Rattle.conf_doc.specs.Document.{Document, text, list, object, items_of, members_of}
use Rattle.conf_doc.specs.declared.trees.Tree.{Tree}
use Rattle.conf_doc.specs.declared.trees.Tree.TheVariants.{Text, List, Map}

-- a text, a list or a map
abbrev pub document : Tree → Document
document (Text t) = text t
document (List ds) = list (items_of ds)
document (Map ms) = object (members_of ms)

-- a name and the document that it names
abbrev pub named_document : Sequence ℕ × Tree → Sequence ℕ × Document
named_document m = (m.0, document m.1)
