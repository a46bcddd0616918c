-- The generated moves at a configuration, and the move that the list there begins with.
use Rattle.std.specs.Prelude.{◌≡◌, ◌≢◌, List, All}
use Rattle.std.specs.List.{Contains}
use Rattle.std.specs.declared.cmp.Ordering.TheVariants.{Greater}
use Rattle.conf_doc.specs.declared.configuration.Config.{Config}
use Rattle.move_core.specs.Listed.{EndsChain, IsGeneratedMove}
use Rattle.move_core.specs.ListedOrder.{listed_cmp}
use Rattle.move_core.specs.Rulebook.{Rulebook}
use Rattle.move_core.specs.declared.moves.Generated.{Generated}
use Rattle.move_core.specs.declared.moves.Move.{Move}
use Rattle.move_core.specs.declared.moves.Ranked.{Ranked}
use Rattle.move_lists.specs.Parts.{part_of}

-- they are the generated moves
pub record AreOffersOf (book : Rulebook) (cur goal : Config) (gs : List Generated) : Type 0 where
  pub each : All (IsGeneratedMove book cur goal) gs
  pub all : (g : Generated) → IsGeneratedMove book cur goal g → Contains gs g

-- a chain of part 1 ends with the move, and no chain comes before it
pub record IsLeading (book : Rulebook) (start cur goal : Config) (m : Move) : Type 0 where
  pub chain : Ranked
  pub ends : EndsChain book start cur goal chain
  pub part : part_of chain ≡ 1
  pub mv : chain.mv ≡ m
  pub first : (s : Ranked) → EndsChain book start cur goal s → listed_cmp chain s ≢ Greater

-- no chain is of part 1
abbrev pub HasNoLeading : Rulebook → Config → Config → Config → Type 0
HasNoLeading book start cur goal =
    (s : Ranked) → EndsChain book start cur goal s → part_of s ≢ 1
