-- What holds of lists of moves and of first ways.
use Rattle.std.specs.Prelude.{◌≡◌, List}
use Rattle.conf_doc.specs.declared.configuration.Config.{Config}
use Rattle.move_core.specs.Contexts.{rulebook}
use Rattle.move_core.specs.Listed.{AreListed}
use Rattle.move_core.specs.Ways.{IsAhead, IsLeast}
use Rattle.move_core.specs.declared.contexts.Ctx.{Ctx}
use Rattle.move_core.specs.declared.moves.Move.{Move}
use Rattle.plan_search.specs.FirstWays.{IsAheadOfGoal, IsFirstWay}

-- each configuration has its list of moves
abbrev pub ListsAreThere : Type 0
ListsAreThere =
    (ctx : Ctx) (start cur goal : Config)
    → (list : List Move) × AreListed (rulebook ctx) start cur goal list

-- there is no second first way
abbrev pub FirstIsOne : Type 0
FirstIsOne =
    (ctx : Ctx) (start goal : Config) (ms ns : List Move)
    → IsFirstWay (rulebook ctx) start goal ms → IsFirstWay (rulebook ctx) start goal ns → ms ≡ ns

-- it is the least way by positions in the lists
abbrev pub FirstIsLeast : Type 0
FirstIsLeast =
    (ctx : Ctx) (start goal : Config) (ms : List Move) → IsFirstWay (rulebook ctx) start goal ms
    → IsLeast (rulebook ctx) start goal ms goal

-- and what is ahead of goal is ahead by positions
abbrev pub AheadByPositions : Type 0
AheadByPositions =
    (ctx : Ctx) (start goal x : Config) → IsAheadOfGoal (rulebook ctx) start goal x
    → IsAhead (rulebook ctx) start goal x

-- the least way by positions is the first one,
abbrev pub LeastIsFirst : Type 0
LeastIsFirst =
    (ctx : Ctx) (start goal : Config) (ms : List Move) → IsLeast (rulebook ctx) start goal ms goal
    → IsFirstWay (rulebook ctx) start goal ms

-- and what is ahead by positions is ahead of goal
abbrev pub PositionsAreAhead : Type 0
PositionsAreAhead =
    (ctx : Ctx) (start goal x : Config) → IsAhead (rulebook ctx) start goal x
    → IsAheadOfGoal (rulebook ctx) start goal x
