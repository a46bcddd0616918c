-- How moves are reached from others by extensions.
use Rattle.std.specs.Prelude.{◌≡◌, ◌⊎◌, ℕ, ◌+◌, ◌<◌, ◌≤◌, List, [], ◌∷◌, ◌++◌, Some, slice_get, All}
use Rattle.std.specs.List.{Contains}
use Rattle.move_core.specs.Extensions.{upper_place}
use Rattle.move_core.specs.Moves.{IsDefined}
use Rattle.move_core.specs.declared.moves.Generated.{Generated}
use Rattle.move_core.specs.declared.moves.Move.{Move}
use Rattle.move_lists.specs.Questions.{FollowsIn, IsOffered, LeadsIn}
use Rattle.move_lists.specs.declared.asking.Question.{Question}

-- moves, each with its number of extensions
abbrev pub Depths : Type 0
Depths = List (Move × ℕ)

-- more moves than a list can have
abbrev pub most_moves : ℕ
most_moves = 9223372036854775808

-- the move is there
abbrev pub HasMove : Depths → Move → Type 0
HasMove es m = (d : ℕ) × Contains es (m, d)

-- it is there with no more than that many extensions
abbrev pub HasWithin : Depths → ℕ → Move → Type 0
HasWithin es n m = (d : ℕ) × (d ≤ n) × Contains es (m, d)

-- each move is there with one number of extensions
abbrev pub AreOnce : Depths → Type 0
AreOnce es = (m : Move) (d e : ℕ) → Contains es (m, d) → Contains es (m, e) → d ≡ e

-- at an index stands a move with fewer extensions
abbrev pub HasBelow : Depths → ℕ → ℕ → Type 0
HasBelow es i limit = (e : Move × ℕ) × (slice_get es i ≡ Some e) × (e.1 < limit)

-- the move was known, or now stands at the end
abbrev pub IsNoted : Depths → Depths → Depths → Move → ℕ → Type 0
IsNoted beside old new m d =
    ((HasMove beside m ⊎ HasMove old m) × (new ≡ old))
    ⊎ ((¬ HasMove beside m × ¬ HasMove old m) × (new ≡ old ++ (m, d) ∷ []))

-- those of the moves that weren't known stand at the end
pub record AreNoted (beside old new : Depths) (ms : List Move) (d : ℕ) : Type 0 where
  pub more : Depths
  pub follows : new ≡ old ++ more
  pub each : All (λ e. Contains ms e.0 × (e.1 ≡ d)) more
  pub all : (m : Move) → Contains ms m → HasMove beside m ⊎ HasMove new m

-- those extensions of the move at an index that weren't known stand at the end
pub record IsSpread (q : Question) (beside old new : Depths) (i : ℕ) : Type 0 where
  pub mv : Move
  pub depth : ℕ
  pub at : slice_get old i ≡ Some (mv, depth)
  pub more : Depths
  pub follows : new ≡ old ++ more
  pub each : All (λ e. FollowsIn q mv e.0 × (e.1 ≡ depth + 1)) more
  pub all : (m : Move) → FollowsIn q mv m → HasMove beside m ⊎ HasMove new m

-- the extensions of the moves before an index are known
abbrev pub IsSpreadBefore : Question → Depths → Depths → ℕ → Type 0
IsSpreadBefore q beside es i =
    (k : ℕ) (e : Move × ℕ) → k < i → slice_get es k ≡ Some e
    → (x : Move) → FollowsIn q e.0 x → HasMove beside x ⊎ HasMove es x

-- the move at an index and one before it have the same place above
pub record SharesAbove (es : Depths) (i : ℕ) : Type 0 where
  pub k : ℕ
  pub before : Move × ℕ
  pub here : Move × ℕ
  pub follows : k < i
  pub at_before : slice_get es k ≡ Some before
  pub at : slice_get es i ≡ Some here
  pub same : upper_place before.0 ≡ upper_place here.0

-- the extenders can be asked about the move at an index
pub record CanSpread (q : Question) (es : Depths) (i : ℕ) : Type 0 where
  pub mv : Move
  pub depth : ℕ
  pub at : slice_get es i ≡ Some (mv, depth)
  pub defined : IsDefined q.cur.now mv
  pub shallow : depth ≤ i
  pub small : i < most_moves

-- it is a generated move
abbrev pub IsOfferedMove : Question → Move → Type 0
IsOfferedMove q m = (g : Generated) × IsOffered q g × (g.mv ≡ m)

-- that many extensions lead from one of the moves to it
abbrev pub IsLedTo : Question → List Move → Move × ℕ → Type 0
IsLedTo q first e = (f : Move) × Contains first f × LeadsIn q f e.1 e.0

-- the extensions of a move that is there are there
abbrev pub IsClosed : Question → Depths → Type 0
IsClosed q es = (m x : Move) → HasMove es m → FollowsIn q m x → HasMove es x

-- what some extensions of the moves lead to is there, or in `beside`
abbrev pub HoldsAll : Question → Depths → List Move → Depths → Type 0
HoldsAll q beside first es =
    (f : Move) (n : ℕ) (x : Move) → Contains first f → LeadsIn q f n x
    → HasMove beside x ⊎ HasWithin es n x

-- what no more extensions of the moves than that lead to is there
abbrev pub HoldsWithin : Question → ℕ → List Move → Depths → Type 0
HoldsWithin q limit first es =
    (f : Move) (n : ℕ) (x : Move) → Contains first f → n ≤ limit → LeadsIn q f n x
    → HasWithin es n x

-- moves that some lead to, in the order of their numbers of extensions; the extensions of those before an
-- index are known
pub record AreReached (q : Question) (beside : Depths) (first : List Move) (es : Depths) (i : ℕ)
    : Type 0 where
  pub each : All (IsLedTo q first) es
  pub begun : (f : Move) → Contains first f → HasMove beside f ⊎ HasWithin es 0 f
  pub rising :
      (j k : ℕ) (a b : Move × ℕ) → j ≤ k → slice_get es j ≡ Some a → slice_get es k ≡ Some b
      → a.1 ≤ b.1
  pub near :
      (j k : ℕ) (a b : Move × ℕ) → i ≤ k → slice_get es j ≡ Some a → slice_get es k ≡ Some b
      → a.1 ≤ b.1 + 1
  pub shallow : (k : ℕ) (e : Move × ℕ) → slice_get es k ≡ Some e → e.1 ≤ k
  pub spread :
      (k : ℕ) (e : Move × ℕ) → k < i → slice_get es k ≡ Some e
      → (x : Move) → FollowsIn q e.0 x → HasMove beside x ⊎ HasWithin es (e.1 + 1) x
