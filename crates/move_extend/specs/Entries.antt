-- The requiring places, at a key of their table.
use Rattle.std.specs.Prelude.{ℕ, List, ◌∷◌}
use Rattle.std.specs.Option.{option_to_list}
use Rattle.move_core.specs.Moves.{Place}
use Rattle.move_core.specs.declared.settings.Requiring.{Requiring}

-- a requiring place at a key of its table
abbrev pub requiring_place : Requiring → List ℕ → Place
requiring_place q key = q.table ∷ key ∷ option_to_list q.field
