-- Moves that are generated, and what extends a move, where they are looked at.
use Rattle.std.specs.Prelude.{◌≡◌, ◌⊎◌, ℕ, List, Some}
use Rattle.conf_doc.specs.declared.configuration.Config.{Config}
use Rattle.move_core.specs.Contexts.{rulebook}
use Rattle.move_core.specs.Generated.{IsFieldMove, IsFirstDifference, IsItemMove, IsKeyRemove, IsTableMove}
use Rattle.move_core.specs.Listed.{Extends, IsGeneratedMove, IsListed}
use Rattle.move_core.specs.Moves.{Place, list_at}
use Rattle.move_core.specs.Rulebook.{Rulebook}
use Rattle.move_core.specs.declared.moves.Generated.{Generated}
use Rattle.move_core.specs.declared.moves.Move.{Move}
use Rattle.plan_check.specs.declared.here.Here.{Here}

-- the move leads towards goal at its own place, and adds no entry
abbrev pub IsTowards : Config → Config → Move → Type 0
IsTowards cur goal m =
    IsTableMove cur goal m
    ⊎ (IsKeyRemove cur goal m ⊎ (IsFieldMove cur goal m ⊎ IsItemMove cur goal m))

-- those are the lists at the place, and they differ first at that index
pub record DifferThere (cur goal : Config) (p : Place) (i : ℕ) (old new : List (List ℕ))
    : Type 0 where
  pub here : list_at cur p ≡ Some old
  pub there : list_at goal p ≡ Some new
  pub first : IsFirstDifference old new i

-- some generator gives the move
pub record IsBeginning (book : Rulebook) (cur goal : Config) (m : Move) : Type 0 where
  pub first : Generated
  pub generated : IsGeneratedMove book cur goal first
  pub move : first.mv ≡ m

-- the move is generated here
abbrev pub Begins : Here → Move → Type 0
Begins h m = IsBeginning (rulebook h.ctx.now) h.cur.now h.goal.now m

-- it is listed here
abbrev pub IsListedAt : Here → Move → Type 0
IsListedAt h m = IsListed (rulebook h.ctx.now) h.cur.now h.goal.now m

-- the first is followed by the second here
abbrev pub Precedes : Here → Move → Move → Type 0
Precedes h m x = Extends (rulebook h.ctx.now) h.cur.now h.goal.now m x
