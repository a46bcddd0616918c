-- The document of a JSON text, or the way to what is no text, list or map.
use Rattle.std.specs.Prelude.{ℕ, ◌+◌, List, [], ◌∷◌, if◌then◌else◌, Option, Some, None, Result, Ok, Err, decimal}
use Rattle.std.specs.Str.{is_utf8}
use Rattle.host_core.specs.Answers.{map_ok, both}
use Rattle.serde_json.specs.Data as values
use Rattle.serde_json.specs.Read.{read}
use Rattle.conf_doc.specs.Document.{Document, text, list, object, Items, no_items, item, Members, no_members, member}
use Rattle.conf_doc.specs.Pointer.{pointer}
use Rattle.conf_doc.specs.declared.errors.ReadError.{ReadError}
use Rattle.conf_doc.specs.declared.errors.ReadError.TheVariants.{BadJson, BadKind, Memory}

-- the tokens that lead from the root to a node
abbrev pub Way : Type 0
Way = List (List ℕ)

-- the fault lies below this token
abbrev pub below : {A : Type 0} → List ℕ → Result A Way → Result A Way
below token (Ok a) = Ok a
below token (Err way) = Err (token ∷ way)

-- The JSON value of bytes (RFC 8259) as serde_json reads it. Bytes that aren't UTF-8 have none.
abbrev pub json : List ℕ → Option values.Data
json bytes = if is_utf8 bytes then read bytes else None

abbrev mutual
  -- the document that the value is, or the way to its first number, true, false or null
  pub document_of : values.Data → Result Document Way
  document_of values.null = Err []
  document_of (values.boolean b) = Err []
  document_of (values.number n) = Err []
  document_of (values.string s) = Ok (text s)
  document_of (values.array ds) = map_ok list (items_from 0 ds)
  document_of (values.object ms) = map_ok object (members_from ms)

  -- items are counted from 0
  pub items_from : ℕ → values.Items → Result Items Way
  items_from i values.no_items = Ok no_items
  items_from i (values.item d ds) =
      both item (below (decimal i) (document_of d)) (items_from (i + 1) ds)

  -- members are looked at in the order of their names
  pub members_from : values.Members → Result Members Way
  members_from values.no_members = Ok no_members
  members_from (values.member k d ms) = both (member k) (below k (document_of d)) (members_from ms)

-- the way to a number, true, false or null as a pointer
abbrev pub kind_checked : Result Document Way → Result Document ReadError
kind_checked (Ok d) = Ok d
kind_checked (Err way) = Err (BadKind (pointer way))

-- what a value is read as
abbrev pub valued : values.Data → Result Document ReadError
valued d = kind_checked (document_of d)

-- the value, or that there is none
abbrev pub json_answer : Option values.Data → Result values.Data ReadError
json_answer None = Err BadJson
json_answer (Some d) = Ok d

-- what a value that was read, or none, is read as
abbrev pub json_checked : Option values.Data → Result Document ReadError
json_checked None = Err BadJson
json_checked (Some d) = valued d

-- what bytes are read as
abbrev pub reading : List ℕ → Result Document ReadError
reading bytes = json_checked (json bytes)

-- the fault that an error tells, or none for want of memory
abbrev pub read_fault : ReadError → Option ReadError
read_fault BadJson = Some BadJson
read_fault (BadKind place) = Some (BadKind place)
read_fault Memory = None
