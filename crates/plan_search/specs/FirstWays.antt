-- Ways compared by chains of moves, without lists: which is before the other, the first one to goal, and what
-- is ahead of goal.
use Rattle.std.specs.Prelude.{◌≡◌, ◌≢◌, ◌⊎◌, List, [], ◌∷◌}
use Rattle.std.specs.declared.cmp.Ordering.TheVariants.{Less}
use Rattle.conf_doc.specs.declared.configuration.Config.{Config}
use Rattle.move_core.specs.Listed.{EndsChain}
use Rattle.move_core.specs.ListedOrder.{listed_cmp}
use Rattle.move_core.specs.Moves.{step}
use Rattle.move_core.specs.Rulebook.{Rulebook}
use Rattle.move_core.specs.Ways.{IsSimpleWay}
use Rattle.move_core.specs.declared.moves.Move.{Move}
use Rattle.move_core.specs.declared.moves.Ranked.{Ranked}

-- what is said of two moves at a configuration
abbrev pub SaysOfMoves : Type 1
SaysOfMoves = Config → Move → Move → Type 0

-- where they part, the move of the first stands before that of the second, or the first ends there
abbrev pub IsBefore : SaysOfMoves → Config → List Move → List Move → Type 0
IsBefore Precedes c [] [] = ⊥
IsBefore Precedes c [] (n ∷ ns) = Unit {0}
IsBefore Precedes c (m ∷ ms) [] = ⊥
IsBefore Precedes c (m ∷ ms) (n ∷ ns) =
    Precedes c m n ⊎ ((m ≡ n) × IsBefore Precedes (step c m) ms ns)

-- in the list at cur the one move stands before the other: some chain that ends with it comes before each
-- chain that ends with the other
pub record StandsBefore (book : Rulebook) (start goal cur : Config) (m n : Move) : Type 0 where
  pub chain : Ranked
  pub ends : EndsChain book start cur goal chain
  pub mv : chain.mv ≡ m
  pub before :
      (s : Ranked) → EndsChain book start cur goal s → s.mv ≡ n → listed_cmp chain s ≡ Less

-- of the simple ways to goal it is before every other one
pub record IsFirstWay (book : Rulebook) (start goal : Config) (ms : List Move) : Type 0 where
  pub way : IsSimpleWay book start goal ms goal
  pub first :
      (ns : List Move) → IsSimpleWay book start goal ns goal → ns ≢ ms
      → IsBefore (StandsBefore book start goal) start ms ns

-- it isn't goal, and some simple way to it is before every simple way to goal
pub record IsAheadOfGoal (book : Rulebook) (start goal x : Config) : Type 0 where
  pub other : x ≢ goal
  pub moves : List Move
  pub way : IsSimpleWay book start goal moves x
  pub before :
      (ns : List Move) → IsSimpleWay book start goal ns goal
      → IsBefore (StandsBefore book start goal) start moves ns
