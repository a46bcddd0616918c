-- The listed moves of a configuration are finitely many, so they can't fail to have a list, and they have one.
use Rattle.std.specs.Prelude.{◌≡◌, List}
use Rattle.std.specs.List.{Contains}
use Rattle.conf_doc.specs.declared.configuration.Config.{Config}
use Rattle.move_core.specs.Contexts.{rulebook}
use Rattle.move_core.specs.Listed.{AreListed, IsListed}
use Rattle.move_core.specs.declared.contexts.Ctx.{Ctx}
use Rattle.move_core.specs.declared.moves.Move.{Move}

-- some list holds all that are as P says
abbrev pub IsFinite : {A : Type 0} → (A → Type 0) → Type 0
IsFinite {A} P = (xs : List A) × ((x : A) → P x → Contains xs x)

-- some list holds all listed moves
abbrev pub MovesAreFinite : Type 0
MovesAreFinite =
    (ctx : Ctx) (cur goal : Config) → IsFinite (IsListed (rulebook ctx) cur goal)

-- it can't be that no list holds the listed moves, each once, in order
abbrev pub ListsExist : Type 0
ListsExist =
    (ctx : Ctx) (start cur goal : Config)
    → ¬ ¬ ((list : List Move) × AreListed (rulebook ctx) start cur goal list)

-- two lists of the listed moves, each once, in order, are the same
abbrev pub ListsAreOne : Type 0
ListsAreOne =
    (ctx : Ctx) (start cur goal : Config) (ms ns : List Move)
    → AreListed (rulebook ctx) start cur goal ms → AreListed (rulebook ctx) start cur goal ns
    → ms ≡ ns
