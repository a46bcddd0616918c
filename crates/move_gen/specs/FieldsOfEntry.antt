-- The moves of the fields of one entry.
use Rattle.std.specs.Prelude.{◌≡◌, ℕ, List, Some, slice_get}
use Rattle.conf_doc.specs.declared.configuration.Config.{Config}
use Rattle.move_core.specs.Generated.{IsFromFields}
use Rattle.move_core.specs.declared.moves.Generated.{Generated}

-- the move is for a place that begins with the table and the key
abbrev pub IsForEntry : List ℕ → List ℕ → Generated → Type 0
IsForEntry t k g = (slice_get g.place 0 ≡ Some t) × (slice_get g.place 1 ≡ Some k)

-- what the third generator gives for a field of the entry
abbrev pub IsFieldOf : Config → Config → List ℕ → List ℕ → Generated → Type 0
IsFieldOf cur goal t k g = IsFromFields cur goal g × IsForEntry t k g
