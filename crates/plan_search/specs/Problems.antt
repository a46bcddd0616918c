-- What a search is about, whatever it is that lists and allows moves.
use Rattle.std.specs.Prelude.{◌≡◌, ◌≢◌, ◌⊎◌, ℕ, ◌+◌, List, [], ◌∷◌, All}
use Rattle.std.specs.List.{AllPairs, Contains}
use Rattle.conf_doc.specs.declared.configuration.Config.{Config}
use Rattle.move_core.specs.Moves.{step}
use Rattle.move_core.specs.Ways.{IsSimple}
use Rattle.move_core.specs.declared.moves.Move.{Move}
use Rattle.plan_search.specs.FirstWays.{IsBefore}

-- Where it begins and is to end. Which moves are allowed at a configuration, and which are listed there.
-- The list is divided into parts: which moves are within the first ones, and which stand before others.
-- Where moves can be asked for.
pub record Problem : Type 1 where
  pub start : Config
  pub goal : Config
  pub IsAllowed : Config → Move → Type 0
  pub IsListed : Config → Move → Type 0
  pub IsWithin : Config → ℕ → Move → Type 0
  pub Precedes : Config → Move → Move → Type 0
  pub IsFit : Config → Type 0

-- into how many parts a list is divided
abbrev pub part_count : ℕ
part_count = 8

-- An allowed move is a listed one, and after it moves can be asked for again. No move is within no parts,
-- and none is in no part. No two moves stand before each other. Moves can be told apart.
pub record IsLawful (p : Problem) : Type 0 where
  pub listed : (c : Config) (m : Move) → p.IsAllowed c m → p.IsListed c m
  pub fit : (c : Config) (m : Move) → p.IsFit c → p.IsAllowed c m → p.IsFit (step c m)
  pub none : (c : Config) (m : Move) → ¬ p.IsWithin c 0 m
  pub all : (c : Config) (m : Move) → p.IsListed c m → ¬ ¬ p.IsWithin c part_count m
  pub one_way : (c : Config) (m n : Move) → p.Precedes c m n → ¬ p.Precedes c n m
  pub told : (m n : Move) → (m ≡ n) ⊎ (m ≢ n)

module _ (p : Problem) where
  -- ---- parts

  -- it stands before each listed move that isn't within that many parts
  abbrev pub PrecedesLater : Config → ℕ → Move → Type 0
  PrecedesLater c k m =
      (n : Move) → p.IsListed c n → ¬ p.IsWithin c k n → p.Precedes c m n

  -- The part of the list after that many: those listed moves that are within one part more, in order,
  -- before all later ones. It may hold some again that were within the parts before.
  pub record IsPart (c : Config) (k : ℕ) (ms : List Move) : Type 0 where
    pub each : All (p.IsListed c) ms
    pub all : (m : Move) → p.IsWithin c (k + 1) m → ¬ p.IsWithin c k m → Contains ms m
    pub order : AllPairs (p.Precedes c) ms
    pub later : All (PrecedesLater c (k + 1)) ms

  -- ---- routes

  -- each move is allowed where it stands, and the last one leads to x
  abbrev pub IsRoute : Config → List Move → Config → Type 0
  IsRoute c [] x = x ≡ c
  IsRoute c (m ∷ ms) x = p.IsAllowed c m × IsRoute (step c m) ms x

  -- some route leads from start to it
  abbrev pub CanReach : Config → Type 0
  CanReach x = (ms : List Move) × IsRoute p.start ms x

  -- some route leads from start to it, and it isn't goal
  abbrev pub CanReachBeside : Config → Type 0
  CanReachBeside x = CanReach x × (x ≢ p.goal)

  -- a route from start to x on which no configuration occurs twice
  pub record IsSimpleRoute (ms : List Move) (x : Config) : Type 0 where
    pub route : IsRoute p.start ms x
    pub simple : IsSimple p.start ms

  -- it is before every other simple route to goal
  pub record IsFirst (ms : List Move) : Type 0 where
    pub simple : IsSimple p.start ms
    pub first :
        (ns : List Move) → IsSimpleRoute ns p.goal → ns ≢ ms → IsBefore p.Precedes p.start ms ns

  -- it isn't goal, and some simple route to it is before every simple route to goal
  pub record IsAhead (x : Config) : Type 0 where
    pub other : x ≢ p.goal
    pub moves : List Move
    pub way : IsSimpleRoute moves x
    pub before :
        (ns : List Move) → IsSimpleRoute ns p.goal → IsBefore p.Precedes p.start moves ns
