-- Chains and their ranks, and what is kept of them.
use Rattle.std.specs.Prelude.{◌≡◌, ◌≢◌, ◌⊎◌, ℕ, ◌+◌, ◌≤◌, Bool, true, false, not, nat_eq, if◌then◌else◌, List, [], ◌++◌, map, All}
use Rattle.std.specs.List.{AllPairs, Contains, filter}
use Rattle.std.specs.List.Sorted.{IsPermutation}
use Rattle.std.specs.declared.cmp.Ordering.TheVariants.{Greater}
use Rattle.move_core.specs.Contexts.{rulebook}
use Rattle.move_core.specs.Listed.{EndsChain, moves_of, other_tier, place_class}
use Rattle.move_core.specs.ListedOrder.{listed_cmp, rank_cmp}
use Rattle.move_core.specs.declared.moves.Move.{Move}
use Rattle.move_core.specs.declared.moves.Ranked.{Ranked}
use Rattle.move_lists.specs.Parts.{AreListedIn, AreListedTo, EndsEarlier, chain_part, part_of}
use Rattle.move_lists.specs.Questions.{LeadsIn}
use Rattle.move_lists.specs.Reaches.{AreOnce, Depths, HasMove, HasWithin, HoldsAll, IsLedTo}
use Rattle.move_lists.specs.declared.asking.Question.{Question}
use Rattle.move_lists.specs.declared.firsts.First.{First}
use Rattle.move_lists.specs.declared.ranking.Choice.{Choice}
use Rattle.move_lists.specs.declared.ranking.Choice.TheVariants.{Early, Late, Restoring, Other}

-- the tier of an extended chain from a remove or a replace that isn't restoring
abbrev pub early_tier : ℕ
early_tier = 2

-- of any other extended chain
abbrev pub late_tier : ℕ
late_tier = 4

-- its extended chains have the lesser tier
abbrev pub leads_early : First → Bool
leads_early f =
    if f.is_restoring then false else nat_eq (other_tier f.generated.mv 1) early_tier

-- a generated move is among those that are chosen
abbrev pub is_chosen : Choice → First → Bool
is_chosen Early f = leads_early f
is_chosen Late f = not (leads_early f)
is_chosen Restoring f = f.is_restoring
is_chosen Other f = not f.is_restoring

-- the moves of those that are chosen
abbrev pub chosen_moves : Choice → List First → List Move
chosen_moves choice fs = map (λ f. f.generated.mv) (filter (is_chosen choice) fs)

-- the tier of a generated move alone, that is restoring or isn't
abbrev pub lone_tier : Bool → ℕ
lone_tier true = 3
lone_tier false = 1

-- a generated move alone, that is restoring or isn't, with its rank
abbrev pub alone : Bool → First → Ranked
alone restoring f =
    record {
      tier = lone_tier restoring;
      depth = 0;
      class = f.generated.class;
      mv = f.generated.mv;
    }

-- it is restoring, or isn't
abbrev pub is_restoring_as : Bool → First → Bool
is_restoring_as restoring f = if f.is_restoring then restoring else not restoring

-- those of the generated moves that are restoring, or aren't, each alone with its rank
abbrev pub ranked_alone : Bool → List First → List Ranked
ranked_alone restoring fs = map (alone restoring) (filter (is_restoring_as restoring) fs)

-- a move that was reached by so many extensions or more, in a tier
pub record IsExtended (reached : Depths) (tier least : ℕ) (r : Ranked) : Type 0 where
  pub there : Contains reached (r.mv, r.depth)
  pub extended : least ≤ r.depth
  pub tier_is : r.tier ≡ tier
  pub class : r.class ≡ place_class r.mv

-- moves that were reached by so many extensions or more are put at the end
pub record AddsExtended (reached : Depths) (tier least : ℕ) (old new : List Ranked) : Type 0 where
  pub more : List Ranked
  pub follows : new ≡ old ++ more
  pub each : All (IsExtended reached tier least) more
  pub all :
      (m : Move) (d : ℕ) → Contains reached (m, d) → least ≤ d
      → (r : Ranked) × Contains more r × (r.mv ≡ m) × (r.depth ≡ d)
      × IsExtended reached tier least r

-- a chain that the question has, with its rank
abbrev pub IsChain : Question → Ranked → Type 0
IsChain q r = EndsChain (rulebook q.ctx.now) q.start.now q.cur.now q.goal.now r

-- a chain of a lesser part ends with the move
abbrev pub IsEarlier : Question → ℕ → Move → Type 0
IsEarlier q part m = EndsEarlier (rulebook q.ctx.now) q.start.now q.cur.now q.goal.now part m

-- some chain among them ends with the move, and its rank isn't greater
abbrev pub HasLeast : List Ranked → Ranked → Type 0
HasLeast rs s = (r : Ranked) × Contains rs r × (r.mv ≡ s.mv) × (rank_cmp r s ≢ Greater)

-- chains of a part, one of least rank for each move that no chain of a lesser part ends with
pub record AreChainsIn (q : Question) (part : ℕ) (rs : List Ranked) : Type 0 where
  pub each : All (λ r. IsChain q r × (part_of r ≡ part)) rs
  pub least :
      (s : Ranked) → IsChain q s → part_of s ≡ part → HasLeast rs s ⊎ IsEarlier q part s.mv

-- chains of lesser parts end with them, and they are all such moves that chains among those end with
pub record AreEarlier (q : Question) (part : ℕ) (rs : List Ranked) (known : Depths)
    : Type 0 where
  pub each : (m : Move) → HasMove known m → IsEarlier q part m
  pub all : (r : Ranked) → Contains rs r → IsEarlier q part r.mv → HasMove known r.mv

-- what extensions reach from the first moves, without those in `beside`
pub record IsReachOf (q : Question) (beside : Depths) (first : List Move) (es : Depths)
    : Type 0 where
  pub each : All (IsLedTo q first) es
  pub all : HoldsAll q beside first es

-- what so many extensions or more reach from the first moves, as far as the part of them asks
pub record IsReachFor (q : Question) (extensions : ℕ) (first : List Move) (es : Depths)
    : Type 0 where
  pub each : All (IsLedTo q first) es
  pub all :
      (f : Move) (n : ℕ) (x : Move) → Contains first f → chain_part early_tier n ≤ 1 + extensions
      → LeadsIn q f n x → HasWithin es n x
  pub lands :
      (m : Move) (d : ℕ) → Contains es (m, d) → extensions ≤ d
      → chain_part early_tier d ≡ 1 + extensions

-- the listed moves of a part
abbrev pub IsInPart : Question → ℕ → List Move → Type 0
IsInPart q part ms =
    AreListedIn (rulebook q.ctx.now) q.start.now q.cur.now q.goal.now part ms

-- the listed moves up to a part
abbrev pub AreToPart : Question → ℕ → List Move → Type 0
AreToPart q part ms =
    AreListedTo (rulebook q.ctx.now) q.start.now q.cur.now q.goal.now part ms

-- the listed moves of a part are put at the end
abbrev pub AddsPart : Question → ℕ → List Move → List Move → Type 0
AddsPart q part old new = (more : List Move) × IsInPart q part more × (new ≡ old ++ more)

-- ---- the first chain of each move

-- each stands before the later ones or ties with them
abbrev pub AreSorted : List Ranked → Type 0
AreSorted rs = AllPairs (λ r s. listed_cmp r s ≢ Greater) rs

-- of sorted chains the first of each move that isn't known, in order
pub record AreFirsts (known : Depths) (rs kept : List Ranked) : Type 0 where
  pub each : All (λ r. Contains rs r × ¬ HasMove known r.mv) kept
  pub all :
      (r : Ranked) → Contains rs r
      → HasMove known r.mv ⊎ ((k : Ranked) × Contains kept k × (k.mv ≡ r.mv))
  pub least :
      (r s : Ranked) → Contains kept r → Contains rs s → r.mv ≡ s.mv → listed_cmp r s ≢ Greater
  pub sorted : AreSorted kept
  pub distinct : AllPairs (λ r s. r.mv ≢ s.mv) kept

-- the first of each move that isn't known
abbrev pub HasFirsts : Depths → List Ranked → List Move → Type 0
HasFirsts known rs ms = (kept : List Ranked) × AreFirsts known rs kept × (ms ≡ moves_of kept)

-- so of chains in any order
abbrev pub AreInOrder : Depths → List Ranked → List Move → Type 0
AreInOrder known rs ms =
    (sorted : List Ranked) × IsPermutation rs sorted × HasFirsts known sorted ms

-- of the moves that were reached by so many extensions or more those that aren't known, in order in a tier
pub record AreExtended (known reached : Depths) (tier least : ℕ) (ms : List Move) : Type 0 where
  pub ranked : List Ranked
  pub added : AddsExtended reached tier least [] ranked
  pub once : AreOnce reached
  pub order : AreInOrder known ranked ms
