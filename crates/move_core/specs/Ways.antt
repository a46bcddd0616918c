-- Ways compared: the first in the order of the lists of moves, and what is ahead of goal.
use Rattle.std.specs.Prelude.{◌≡◌, ◌≢◌, ℕ, List, [], ◌∷◌, length, Some, slice_get, All}
use Rattle.std.specs.List.{AllPairs}
use Rattle.std.specs.Cmp.Lexicographic.{slice_cmp}
use Rattle.std.specs.Ordering.{nat_cmp}
use Rattle.std.specs.declared.cmp.Ordering.TheVariants.{Less}
use Rattle.conf_doc.specs.declared.configuration.Config.{Config}
use Rattle.move_core.specs.Listed.{AreListed}
use Rattle.move_core.specs.Moves.{step}
use Rattle.move_core.specs.Plans.{IsWay}
use Rattle.move_core.specs.Rulebook.{Rulebook}
use Rattle.move_core.specs.declared.moves.Move.{Move}

-- the configurations on the way, the first one and the last one with them
abbrev pub passed : Config → List Move → List Config
passed c [] = c ∷ []
passed c (m ∷ ms) = c ∷ passed (step c m) ms

-- no configuration occurs twice on it
abbrev pub IsSimple : Config → List Move → Type 0
IsSimple c ms = AllPairs (λ a b. a ≢ b) (passed c ms)

-- a way from start to x on which no configuration occurs twice
pub record IsSimpleWay (book : Rulebook) (start goal : Config) (ms : List Move) (x : Config)
    : Type 0 where
  pub way : IsWay book goal start ms x
  pub simple : IsSimple start ms

-- the positions of the moves, each in the list where it stands
abbrev pub ArePositions : Rulebook → Config → Config → Config → List Move → List ℕ → Type 0
ArePositions book start goal c [] [] = Unit {0}
ArePositions book start goal c [] (i ∷ is) = ⊥
ArePositions book start goal c (m ∷ ms) [] = ⊥
ArePositions book start goal c (m ∷ ms) (i ∷ is) =
    ((list : List Move) × AreListed book start c goal list × (slice_get list i ≡ Some m))
    × ArePositions book start goal (step c m) ms is

-- the one list of positions is before the other, or a proper prefix of it
pub record IsBefore (book : Rulebook) (start goal : Config) (ms ns : List Move) : Type 0 where
  pub left : List ℕ
  pub right : List ℕ
  pub left_are : ArePositions book start goal start ms left
  pub right_are : ArePositions book start goal start ns right
  pub before : slice_cmp nat_cmp left right ≡ Less

-- the simple way to x that is before every other one
pub record IsLeast (book : Rulebook) (start goal : Config) (ms : List Move) (x : Config)
    : Type 0 where
  pub way : IsSimpleWay book start goal ms x
  pub first :
      (ns : List Move) → IsSimpleWay book start goal ns x → ns ≢ ms → IsBefore book start goal ms ns

-- it isn't goal, and some simple way to it is before every simple way to goal
pub record IsAhead (book : Rulebook) (start goal x : Config) : Type 0 where
  pub other : x ≢ goal
  pub moves : List Move
  pub way : IsSimpleWay book start goal moves x
  pub before :
      (ns : List Move) → IsSimpleWay book start goal ns goal → IsBefore book start goal moves ns

-- at least that many distinct configurations are such
abbrev pub AreAtLeast : ℕ → (Config → Type 0) → Type 0
AreAtLeast n P =
    (cs : List Config) × (length cs ≡ n) × All P cs × AllPairs (λ a b. a ≢ b) cs
