-- What is read of a document's text.
use Rattle.std.specs.Prelude.{◌≡◌, ◌≤◌, ℕ, List, Ok}
use Rattle.conf_doc.specs.Document.{Document, deepest, depth}
use Rattle.conf_doc.specs.Reading.{reading}
use Rattle.conf_doc.specs.Sound.{IsSound}

-- a document of UTF-8 texts and maps whose names rise is read of the bytes, where it nests no deeper than
-- serde_json reads
abbrev pub ReadsAs : List ℕ → Document → Type 0
ReadsAs bytes d = IsSound d → depth d ≤ deepest → reading bytes ≡ Ok d
