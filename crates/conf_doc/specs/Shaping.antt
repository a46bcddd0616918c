-- The configuration that a document is, or the way to the first node of a wrong shape or with an
-- empty name.
use Rattle.std.specs.Prelude.{ℕ, ◌+◌, List, [], ◌∷◌, Option, Some, None, Result, Ok, Err, decimal}
use Rattle.conf_doc.specs.Document.{Document, text, list, object, Items, no_items, item, Members, no_members, member}
use Rattle.conf_doc.specs.Pointer.{pointer}
use Rattle.host_core.specs.Answers.{map_ok, both}
use Rattle.conf_doc.specs.Reading.{Way, below}
use Rattle.conf_doc.specs.declared.configuration.Value.{Value}
use Rattle.conf_doc.specs.declared.configuration.Value.TheVariants.{Text, List as Listed}
use Rattle.conf_doc.specs.declared.configuration.Entry.{Entry}
use Rattle.conf_doc.specs.declared.configuration.Table.{Table}
use Rattle.conf_doc.specs.declared.configuration.Config.{Config}
use Rattle.conf_doc.specs.declared.errors.ShapeError.{ShapeError}
use Rattle.conf_doc.specs.declared.errors.ShapeError.TheVariants.{Shape, Memory}

-- a node's own name is looked at before what stands below it
abbrev pub named : {A : Type 0} → List ℕ → Result A Way → Result A Way
named [] part = Err []
named (b ∷ bs) part = part

-- the parts of members, each shaped by f, or the way to the first fault
abbrev pub parts : {A : Type 0}
    → (Document → Result A Way) → Members → Result (List (List ℕ × A)) Way
parts f no_members = Ok []
parts f (member k d ms) = both (λ a rest. (k, a) ∷ rest) (below k (named k (f d))) (parts f ms)

-- the nodes of a map, each shaped by f
abbrev pub mapping_of : {A : Type 0}
    → (Document → Result A Way) → Document → Result (List (List ℕ × A)) Way
mapping_of f (text s) = Err []
mapping_of f (list ds) = Err []
mapping_of f (object ms) = parts f ms

-- the text that a document is
abbrev pub text_of : Document → Result (List ℕ) Way
text_of (text s) = Ok s
text_of (list ds) = Err []
text_of (object ms) = Err []

-- items are counted from 0
abbrev pub texts_from : ℕ → Items → Result (List (List ℕ)) Way
texts_from i no_items = Ok []
texts_from i (item d ds) =
    both (λ t ts. t ∷ ts) (below (decimal i) (text_of d)) (texts_from (i + 1) ds)

-- a text, or a list of texts
abbrev pub value_of : Document → Result Value Way
value_of (text s) = Ok (Text s)
value_of (list ds) = map_ok Listed (texts_from 0 ds)
value_of (object ms) = Err []

-- a map of fields
abbrev pub entry_of : Document → Result Entry Way
entry_of = mapping_of value_of

-- a map of entries
abbrev pub table_of : Document → Result Table Way
table_of = mapping_of entry_of

-- a map of tables
abbrev pub configuration : Document → Result Config Way
configuration = mapping_of table_of

-- the way to the fault as a pointer
abbrev pub shape_checked : Result Config Way → Result Config ShapeError
shape_checked (Ok c) = Ok c
shape_checked (Err way) = Err (Shape (pointer way))

-- what a document is shaped as
abbrev pub shaping : Document → Result Config ShapeError
shaping d = shape_checked (configuration d)

-- the fault that an error tells, or none for want of memory
abbrev pub shape_fault : ShapeError → Option ShapeError
shape_fault (Shape place) = Some (Shape place)
shape_fault Memory = None
