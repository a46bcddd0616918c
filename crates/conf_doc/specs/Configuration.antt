-- The document of a configuration: tables of entries of fields, each a text or a list of texts.
use Rattle.std.specs.Prelude.{ℕ, List, map}
use Rattle.conf_doc.specs.Document.{Document, text, list, object, items_of, members_of}
use Rattle.conf_doc.specs.declared.configuration.Value.{Value}
use Rattle.conf_doc.specs.declared.configuration.Value.TheVariants.{Text, List as Listed}
use Rattle.conf_doc.specs.declared.configuration.Entry.{Entry}
use Rattle.conf_doc.specs.declared.configuration.Table.{Table}
use Rattle.conf_doc.specs.declared.configuration.Config.{Config}
use Rattle.conf_doc.specs.declared.parts.Part.{Part}
use Rattle.conf_doc.specs.declared.parts.Part.TheVariants as part

-- the map of what f makes of each part
abbrev pub mapping : {A : Type 0} → (A → Document) → List (List ℕ × A) → Document
mapping f ps = object (members_of (map (λ p. (p.0, f p.1)) ps))

-- a text, or a list of texts
abbrev pub value_tree : Value → Document
value_tree (Text t) = text t
value_tree (Listed ts) = list (items_of (map text ts))

-- an entry is the map of its fields
abbrev pub entry_tree : Entry → Document
entry_tree = mapping value_tree

-- a table is the map of its entries
abbrev pub table_tree : Table → Document
table_tree = mapping entry_tree

-- a configuration is the map of its tables
abbrev pub tree : Config → Document
tree = mapping table_tree

-- the document of a part
abbrev pub part_tree : Part → Document
part_tree (part.Table t) = table_tree t
part_tree (part.Entry e) = entry_tree e
part_tree (part.Value v) = value_tree v
