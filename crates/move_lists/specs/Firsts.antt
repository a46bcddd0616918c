-- The generated moves at a configuration, each with whether it is restoring.
use Rattle.std.specs.Prelude.{◌≡◌, ◌↔◌, List, None, length, map, is_some, All, IsTrue}
use Rattle.std.specs.List.{Contains}
use Rattle.conf_doc.specs.Changes.{part_at}
use Rattle.conf_doc.specs.declared.configuration.Config.{Config}
use Rattle.move_core.specs.Generated.{IsRestoring}
use Rattle.move_core.specs.Listed.{IsGeneratedMove}
use Rattle.move_core.specs.Moves.{index, new_part}
use Rattle.move_core.specs.Rulebook.{Rulebook}
use Rattle.move_core.specs.declared.moves.Generated.{Generated}
use Rattle.move_lists.specs.declared.firsts.First.{First}

-- the generated moves themselves
abbrev pub generated_of : List First → List Generated
generated_of fs = map (λ f. f.generated) fs

-- it is told of a generated move whether it is restoring
abbrev pub IsTold : Config → Config → First → Type 0
IsTold start goal f = IsTrue f.is_restoring ↔ IsRestoring start goal f.generated

-- they are the generated moves, and of each it is told whether it is restoring
pub record AreFirstsOf (book : Rulebook) (start cur goal : Config) (fs : List First) : Type 0 where
  pub each : All (λ f. IsGeneratedMove book cur goal f.generated × IsTold start goal f) fs
  pub all : (g : Generated) → IsGeneratedMove book cur goal g → Contains (generated_of fs) g

-- what a move leaves tells of goal, unless it is an item's: at a field it is what goal has there, and at an entry it is
-- something exactly where goal has one
pub record LeavesGoals (goal : Config) (g : Generated) : Type 0 where
  pub field : length g.place ≡ 3 → index g.mv ≡ None → part_at goal g.place ≡ new_part g.mv
  pub entry :
      length g.place ≡ 2 → index g.mv ≡ None
      → is_some (part_at goal g.place) ≡ is_some (new_part g.mv)
