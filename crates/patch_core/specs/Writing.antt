-- The document of an operation (RFC 6902, section 4) and of a patch, as they are written.
use Rattle.std.specs.Prelude.{ℕ, List, [], ◌∷◌, ◌++◌, codes, map}
use Rattle.conf_doc.specs.Document.{Document, text, list, object, items_of, members_of, depth}
use Rattle.conf_doc.specs.Pointer.{pointer}
use Rattle.conf_doc.specs.Texts.{compact, line_feed}
use Rattle.patch_core.specs.Operation.{Tokens, Operation, add, remove, replace, move_to, copy_to, test}

-- the member `op`; each member is a name and what it names
abbrev pub op_member : List ℕ → List ℕ × Document
op_member name = (codes "op", text name)

-- the text of a pointer
abbrev pub pointer_document : Tokens → Document
pointer_document tokens = text (pointer tokens)

-- the member `path`
abbrev pub path_member : Tokens → List ℕ × Document
path_member tokens = (codes "path", pointer_document tokens)

-- the member `from`
abbrev pub from_member : Tokens → List ℕ × Document
from_member tokens = (codes "from", pointer_document tokens)

-- the member `value`
abbrev pub value_member : Document → List ℕ × Document
value_member v = (codes "value", v)

-- the object of members in the order of their names
abbrev pub object_of : List (List ℕ × Document) → Document
object_of ms = object (members_of ms)

-- an operation that has a value
abbrev pub value_document : List ℕ → Tokens → Document → Document
value_document name path v = object_of (op_member name ∷ path_member path ∷ value_member v ∷ [])

-- an operation that has another pointer
abbrev pub from_document : List ℕ → (from path : Tokens) → Document
from_document name from path = object_of (from_member from ∷ op_member name ∷ path_member path ∷ [])

-- the document of an operation, as {"op":"remove","path":"/VLAN"}
abbrev pub operation_document : Operation → Document
operation_document (add path v) = value_document (codes "add") path v
operation_document (remove path) = object_of (op_member (codes "remove") ∷ path_member path ∷ [])
operation_document (replace path v) = value_document (codes "replace") path v
operation_document (move_to from path) = from_document (codes "move") from path
operation_document (copy_to from path) = from_document (codes "copy") from path
operation_document (test path v) = value_document (codes "test") path v

-- the document of a patch: the array of its operations
abbrev pub patch_document : List Operation → Document
patch_document ops = list (items_of (map operation_document ops))

-- the file of a patch: its compact text, and a line feed
abbrev pub patch_file : List Operation → List ℕ
patch_file ops = compact (patch_document ops) ++ line_feed

-- how deep the value of an operation nests
abbrev pub value_depth : Operation → ℕ
value_depth (add path v) = depth v
value_depth (remove path) = 0
value_depth (replace path v) = depth v
value_depth (move_to from path) = 0
value_depth (copy_to from path) = 0
value_depth (test path v) = depth v

-- how deep a value may nest that is to be read back: the patch and the operation add a level each
abbrev pub most_value_levels : ℕ
most_value_levels = 125
