-- Steps that leave each entry but one, and each key, as it was.
use Rattle.std.specs.Prelude.{◌≡◌, ◌<◌, ◌≤◌, ℕ, List, length, map, Some, IsSome, slice_get}
use Rattle.std.specs.List.{Any, Contains}
use Rattle.conf_doc.specs.declared.configuration.Config.{Config}
use Rattle.move_core.specs.Moves.{new_part, place}
use Rattle.move_core.specs.declared.moves.Move.{Move}
use Rattle.yang_model.specs.ModelSets.{ModelSet, shapes_of}
use Rattle.yang_model.specs.declared.shapes.Shape.{Shape}

-- a must of the shape reads the table
abbrev pub HasReader : List ℕ → Shape → Type 0
HasReader table shape = Any (λ must. Contains must.reads table) shape.musts

-- no shape of a table of that name has one
abbrev pub IsUnreadBy : ModelSet → List ℕ → List ℕ → Type 0
IsUnreadBy models table name =
    (n : ℕ) (shape : Shape) → slice_get (shapes_of name models) n ≡ Some shape
    → ¬ HasReader table shape

-- nor does one of any table of the configuration
abbrev pub IsUnread : ModelSet → Config → List ℕ → Type 0
IsUnread models c table =
    (i : ℕ) (name : List ℕ) → slice_get (map (λ t. t.0) c) i ≡ Some name
    → IsUnreadBy models table name

-- the move stands within an entry, and puts something where it is the entry's own place
abbrev pub KeepsKeys : Move → Type 0
KeepsKeys m = (1 < length (place m)) × (length (place m) ≤ 2 → IsSome (new_part m))
