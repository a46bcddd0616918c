-- The texts of documents and configurations, as serde_json writes them.
use Rattle.std.specs.Prelude.{◌≡◌, ◌≤◌, ℕ, List, [], ◌∷◌, ◌++◌, Some}
use Rattle.json.specs.Layout.{pretty}
use Rattle.json.specs.Token.{Token}
use Rattle.json.specs.Tree.{json_tokens}
use Rattle.serde_json.specs.Data as values
use Rattle.serde_json.specs.Written.{outline, compact_text}
use Rattle.conf_doc.specs.Reading.{json}
use Rattle.conf_doc.specs.Document.{Document, deepest, depth, text, list, object, Items, no_items, item, Members, no_members, member}
use Rattle.conf_doc.specs.Configuration.{tree}
use Rattle.conf_doc.specs.declared.configuration.Config.{Config}

abbrev mutual
  -- the JSON value that a document is
  pub value : Document → values.Data
  value (text s) = values.string s
  value (list ds) = values.array (item_values ds)
  value (object ms) = values.object (member_values ms)

  -- the values of items
  pub item_values : Items → values.Items
  item_values no_items = values.no_items
  item_values (item d ds) = values.item (value d) (item_values ds)

  -- the values of members
  pub member_values : Members → values.Members
  member_values no_members = values.no_members
  member_values (member k d ms) = values.member k (value d) (member_values ms)

-- the tokens of a document
abbrev pub document_tokens : Document → List Token
document_tokens d = json_tokens (outline (value d))

-- what ends a file
abbrev pub line_feed : List ℕ
line_feed = 10 ∷ []

-- with no space
abbrev pub compact : Document → List ℕ
compact d = compact_text (value d)

-- a line for each item and member, two spaces deeper for each level
abbrev pub pretty_text : Document → List ℕ
pretty_text d = pretty (document_tokens d)

-- the pretty text of the sorted tree, and a line feed
abbrev pub file_text : Config → List ℕ
file_text c = pretty_text (tree c) ++ line_feed

-- where it nests no deeper than serde_json reads, the bytes are read as the document
abbrev pub ReadsBack : List ℕ → Document → Type 0
ReadsBack bytes d = depth d ≤ deepest → json bytes ≡ Some (value d)
