-- Allowed moves, and plans: lists of moves, each allowed where it stands.
use Rattle.std.specs.Prelude.{◌≡◌, ◌≢◌, ℕ, zero, suc, List, [], ◌∷◌}
use Rattle.conf_doc.specs.declared.configuration.Config.{Config}
use Rattle.move_core.specs.Listed.{IsListed}
use Rattle.move_core.specs.Moves.{step}
use Rattle.move_core.specs.Rules.{HasNoDependency, EmptiesNoTable, KeepsCreateOnly, KeepsRequired}
use Rattle.move_core.specs.Rulebook.{Rulebook}
use Rattle.move_core.specs.declared.moves.Move.{Move}

-- the five rules hold of a move from cur to next
pub record KeepsRules (book : Rulebook) (cur next : Config) (m : Move) : Type 0 where
  pub full : book.IsValid next
  pub no_dependency : HasNoDependency book cur next m
  pub no_empty : EmptiesNoTable cur next
  pub create_only : KeepsCreateOnly book.settings cur next
  pub required : KeepsRequired book.settings cur next

-- the move is listed, its result differs from cur, and the five rules hold
pub record IsAllowed (book : Rulebook) (goal cur : Config) (m : Move) : Type 0 where
  pub listed : IsListed book cur goal m
  pub differs : step cur m ≢ cur
  pub rules : KeepsRules book cur (step cur m) m

-- each move is allowed where it stands, and the last one leads to x
abbrev pub IsWay : Rulebook → Config → Config → List Move → Config → Type 0
IsWay book goal c [] x = x ≡ c
IsWay book goal c (m ∷ ms) x = IsAllowed book goal c m × IsWay book goal (step c m) ms x

-- a way from start to goal
abbrev pub IsPlan : Rulebook → Config → Config → List Move → Type 0
IsPlan book start goal ms = IsWay book goal start ms goal

-- the configuration after the first i moves; with fewer moves, after all of them
abbrev pub conf : Config → List Move → ℕ → Config
conf c [] i = c
conf c (m ∷ ms) zero = c
conf c (m ∷ ms) (suc i) = conf (step c m) ms i

-- some way leads from start to it
abbrev pub IsReachable : Rulebook → Config → Config → Config → Type 0
IsReachable book goal start x = (ms : List Move) × IsWay book goal start ms x
