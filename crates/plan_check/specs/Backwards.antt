-- Moves that lead to a move, found backwards.
use Rattle.std.specs.Prelude.{◌≡◌, ◌⊎◌, ◌<◌, ℕ, Bool, true, false, List, ◌++◌, Some, slice_get, All, Contains}
use Rattle.move_core.specs.Moves.{IsDefined}
use Rattle.move_core.specs.declared.moves.Move.{Move}
use Rattle.plan_check.specs.Beginnings.{Begins, IsListedAt, Precedes}
use Rattle.plan_check.specs.declared.here.Here.{Here}

-- the first is defined, and followed by the second
abbrev pub Leads : Here → Move → Move → Type 0
Leads h m x = IsDefined h.cur.now m × Precedes h m x

-- it is one of those, and leads to the other
abbrev pub LeadsOf : Here → List Move → Move → Move → Type 0
LeadsOf h ms x m = Contains ms m × Leads h m x

-- it is that one, and leads to the other
abbrev pub LeadsAs : Here → Move → Move → Move → Type 0
LeadsAs h m x a = (a ≡ m) × Leads h m x

-- those put at the end are as P says and not generated, and all that are as P says are there
pub record Joins (h : Here) (P : Move → Type 0) (old new : List Move) : Type 0 where
  pub more : List Move
  pub follows : new ≡ old ++ more
  pub each : All (λ m. P m × ¬ Begins h m) more
  pub all : (m : Move) → P m → Contains new m

-- a generated move leads to the other
pub record FollowsGenerated (h : Here) (x : Move) : Type 0 where
  pub mv : Move
  pub begins : Begins h mv
  pub leads : Leads h mv x

-- one does, or they are put there
abbrev pub JoinsOrBegins : Here → Move → (Move → Type 0) → List Move → List Move → Bool → Type 0
JoinsOrBegins h x P old new true = FollowsGenerated h x
JoinsOrBegins h x P old new false = Joins h P old new

-- a generated move that precedes the other is among them
pub record HasBeginning (h : Here) (x : Move) (ms : List Move) : Type 0 where
  pub mv : Move
  pub begins : Begins h mv
  pub leads : Leads h mv x
  pub there : Contains ms mv

-- each listed move that precedes the other is among them, or a generated one that precedes it
abbrev pub ArePreceding : Here → Move → List Move → Type 0
ArePreceding h x ms =
    (m : Move) → IsListedAt h m → Precedes h m x → LeadsOf h ms x m ⊎ HasBeginning h x ms

-- those put at the end lead to the other and aren't generated, and what precedes it is there
pub record IsRound (h : Here) (x : Move) (old new : List Move) : Type 0 where
  pub more : List Move
  pub follows : new ≡ old ++ more
  pub each : All (λ m. Leads h m x × ¬ Begins h m) more
  pub all : ArePreceding h x new

-- a generated one leads to it, or they are put there
abbrev pub RoundOrBegins : Here → Move → List Move → List Move → Bool → Type 0
RoundOrBegins h x old new true = FollowsGenerated h x
RoundOrBegins h x old new false = IsRound h x old new

-- those found lead to the move and aren't generated; what precedes those before an index is there
pub record IsReached (h : Here) (x : Move) (n : ℕ) (ms : List Move) : Type 0 where
  pub last : Contains ms x
  pub each : All (λ m. IsListedAt h m → IsListedAt h x) ms
  pub none : All (λ m. ¬ Begins h m) ms
  pub all : (i : ℕ) (m : Move) → i < n → slice_get ms i ≡ Some m → ArePreceding h m ms
