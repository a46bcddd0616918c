-- Which documents are those of configurations and of their parts, told by a walk.
use Rattle.std.specs.Prelude.{ℕ, List, [], ◌∷◌, Bool, true, false, not, ◌&&◌, ◌==◌, length}
use Rattle.std.specs.List.{list_all}
use Rattle.conf_doc.specs.Document.{Document, text, list, object, documents, pairs}
use Rattle.patch_core.specs.Operation.{Operation, Tokens, add, remove, replace, move_to, copy_to, test}

-- a text
abbrev pub is_text : Document → Bool
is_text (text s) = true
is_text (list ds) = false
is_text (object ms) = false

-- a name that isn't empty, with a document that passes the test
abbrev pub is_named : (Document → Bool) → List ℕ × Document → Bool
is_named passes m = not (length m.0 == 0) && passes m.1

-- a map of such
abbrev pub is_map_of : (Document → Bool) → Document → Bool
is_map_of passes (text s) = false
is_map_of passes (list ds) = false
is_map_of passes (object ms) = list_all (is_named passes) (pairs ms)

-- a text or a list of texts
abbrev pub is_value : Document → Bool
is_value (text s) = true
is_value (list ds) = list_all is_text (documents ds)
is_value (object ms) = false

-- a map of values
abbrev pub is_entry : Document → Bool
is_entry = is_map_of is_value

-- a map of entries
abbrev pub is_table : Document → Bool
is_table = is_map_of is_entry

-- a map of tables
abbrev pub is_config : Document → Bool
is_config = is_map_of is_table

-- a document that leaves a configuration one when it is put at a place that so many tokens lead to
abbrev pub fits_at : Tokens → Document → Bool
fits_at [] d = is_config d
fits_at (t ∷ []) d = is_named is_table (t, d)
fits_at (t ∷ k ∷ []) d = is_named is_entry (k, d)
fits_at (t ∷ k ∷ f ∷ []) d = is_named is_value (f, d)
fits_at (t ∷ k ∷ f ∷ i ∷ []) d = is_text d
fits_at (t ∷ k ∷ f ∷ i ∷ j ∷ more) d = false

-- an operation of which its own document tells that it leaves a configuration one
abbrev pub keeps_shape : Operation → Bool
keeps_shape (add path d) = fits_at path d
keeps_shape (remove path) = true
keeps_shape (replace path d) = fits_at path d
keeps_shape (move_to from path) = false
keeps_shape (copy_to from path) = false
keeps_shape (test path d) = true
