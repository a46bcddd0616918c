-- What a JSON Patch makes of a document (RFC 6902), and which bytes hold which patch. Of two documents the first
-- is the one before an edit, and the second the one after it.
use Rattle.std.specs.Prelude.{◌≡◌, ◌⊎◌, ◌<◌, ◌≤◌, ⊤, ℕ, List, [], ◌∷◌, ◌++◌, All, codes, insert, length, remove as cut, slice_get, slice_set, Some, IsSome}
use Rattle.serde_json.specs.Data as values
use Rattle.serde_json.specs.Find.{get}
use Rattle.conf_doc.specs.Document.{Document, text, list, object, documents, items_of, members_of, pairs}
use Rattle.conf_doc.specs.Pairs.{find, put, without}
use Rattle.conf_doc.specs.Reading.{json}
use Rattle.conf_doc.specs.Texts.{value}
use Rattle.patch_core.specs.Operation.{Tokens, Operation, add, remove, replace, move_to, copy_to, test}
use Rattle.patch_core.specs.Writing.{operation_document}
use Rattle.checkpoints.specs.Formats.{members_in}
use Rattle.move_core.specs.Operations.{index_text}

-- ---- what a pointer leads to (RFC 6901, section 4)

-- a token names a child of a node: an item by its index in decimal, a member by its name
abbrev pub Names : List ℕ → Document → Document → Type 0
Names token (text s) child = ⊥
Names token (list ds) child =
    (i : ℕ) × (token ≡ index_text i) × (slice_get (documents ds) i ≡ Some child)
Names token (object ms) child = find token (pairs ms) ≡ Some child

-- the tokens lead from a document to a node
abbrev pub Lead : Tokens → Document → Document → Type 0
Lead [] d node = node ≡ d
Lead (token ∷ rest) d node = (child : Document) × Names token d child × Lead rest child node

-- ---- edits of a node at a token

-- what an edit at a token makes of a node
abbrev pub NodeEdit : Type 1
NodeEdit = List ℕ → Document → Document → Type 0

-- a value is in the place of what the token names
abbrev pub IsReplaced : Document → NodeEdit
IsReplaced v token (text s) e = ⊥
IsReplaced v token (list ds) e =
    (i : ℕ) × (token ≡ index_text i) × (i < length (documents ds))
    × (e ≡ list (items_of (slice_set (documents ds) i v)))
IsReplaced v token (object ms) e =
    IsSome (find token (pairs ms)) × (e ≡ object (members_of (put token v (pairs ms))))

-- what the token names is gone
abbrev pub IsRemoved : NodeEdit
IsRemoved token (text s) e = ⊥
IsRemoved token (list ds) e =
    (i : ℕ) × (token ≡ index_text i) × (i < length (documents ds))
    × (e ≡ list (items_of (cut (documents ds) i)))
IsRemoved token (object ms) e =
    IsSome (find token (pairs ms)) × (e ≡ object (members_of (without token (pairs ms))))

-- a value goes in at an index, which is at most how many items there are, and for `-` just that; a member is set
abbrev pub IsAdded : Document → NodeEdit
IsAdded v token (text s) e = ⊥
IsAdded v token (list ds) e =
    (i : ℕ) × ((token ≡ index_text i) ⊎ ((token ≡ codes "-") × (i ≡ length (documents ds))))
    × (i ≤ length (documents ds)) × (e ≡ list (items_of (insert (documents ds) i v)))
IsAdded v token (object ms) e = e ≡ object (members_of (put token v (pairs ms)))

-- ---- the six operations (section 4)

-- an edit at the last token of a path, of the node that the tokens before it lead to; all else is as before
abbrev pub IsEdited : NodeEdit → Tokens → Document → Document → Type 0
IsEdited E [] d e = ⊥
IsEdited E (token ∷ []) d e = E token d e
IsEdited E (token ∷ next ∷ rest) d e =
    (child : Document) × (new : Document) × Names token d child
    × IsEdited E (next ∷ rest) child new × IsReplaced new token d e

-- a value is put at a path by an edit; at the empty path it is the whole document
abbrev pub IsPut : (Document → NodeEdit) → Document → Tokens → Document → Document → Type 0
IsPut E v [] d e = e ≡ v
IsPut E v (token ∷ rest) d e = IsEdited (E v) (token ∷ rest) d e

-- the one path is a front of the other, which is longer
abbrev pub IsAbove : Tokens → Tokens → Type 0
IsAbove from path = (token : List ℕ) × (rest : Tokens) × (path ≡ from ++ token ∷ rest)

-- what an operation makes of a document; one that fails makes nothing of it
abbrev pub IsResult : Operation → Document → Document → Type 0
IsResult (add path v) d e = IsPut IsAdded v path d e
IsResult (remove path) d e = IsEdited IsRemoved path d e
IsResult (replace path v) d e = IsPut IsReplaced v path d e
IsResult (move_to from path) d e =
    (v : Document) × (rest : Document) × (¬ IsAbove from path) × Lead from d v
    × IsEdited IsRemoved from d rest × IsPut IsAdded v path rest e
IsResult (copy_to from path) d e = (v : Document) × Lead from d v × IsPut IsAdded v path d e
IsResult (test path v) d e = Lead path d v × (e ≡ d)

-- ---- a patch (section 3)

-- the operations in order, each on what the one before it left
abbrev pub IsPatched : List Operation → Document → Document → Type 0
IsPatched [] d e = e ≡ d
IsPatched (op ∷ ops) d e = (next : Document) × IsResult op d next × IsPatched ops next e

-- a JSON value has the members of the operation's document; its others play no part
abbrev pub IsOperation : values.Data → Operation → Type 0
IsOperation x op = All (λ m. get m.0 x ≡ Some (value m.1)) (members_in (operation_document op))

-- each element is the operation that stands in its place
abbrev pub AreElements : values.Items → List Operation → Type 0
AreElements values.no_items [] = ⊤
AreElements (values.item x xs) (op ∷ ops) = IsOperation x op × AreElements xs ops
AreElements xs ops = ⊥

-- bytes are a JSON text of an array of operations
abbrev pub HoldOperations : List ℕ → List Operation → Type 0
HoldOperations bytes ops =
    (xs : values.Items) × (json bytes ≡ Some (values.array xs)) × AreElements xs ops
