-- What a crash leaves: of a host as it is, and at every moment of a run.
use Rattle.std.specs.Prelude.{◌≡◌, ◌⊎◌, ℕ, ◌≤◌, List, [], ◌∷◌, ◌++◌, drop, Option, Some, None, option_map}
use Rattle.std.proofs.Common.{subst}
use Rattle.host_core.specs.State.{Files, Pending, settled, dirty, listing, State, with_file, printed}

-- what is there after a crash
pub record Left : Type 0 where
  pub files : Files
  pub output : List ℕ
  pub restarts : List (List ℕ)

-- The files that a crash may leave, of those that are there now: with nothing pending these; where bytes are
-- pending, these with any file or none of that name; where names are pending, the files before or these.
abbrev pub Image : Pending → Files → Files → Type 0
Image settled now left = left ≡ now
Image (dirty name) now left = (content : Option (List ℕ)) × (left ≡ with_file name content now)
Image (listing before) now left = (left ≡ before) ⊎ (left ≡ now)

-- what a crash may leave of a host in that state
pub record MayLeave (s : State) (left : Left) : Type 0 where
  pub files : Image s.pending s.files left.files
  pub output : left.output ≡ s.output
  pub restarts : left.restarts ≡ s.restarts

-- what is there, as it reads
abbrev pub as_it_reads : State → Left
as_it_reads s = record { files = s.files; output = s.output; restarts = s.restarts }

-- with nothing pending a crash leaves what is there, and nothing else
pub one_image : (s : State) (left : Left) → s.pending ≡ settled → MayLeave s left
    → left ≡ as_it_reads s
one_image s left clean may =
    let files : left.files ≡ s.files = subst (λ p. Image p s.files left.files) clean may.files in
    λ i. record { files = files i; output = may.output i; restarts = may.restarts i }

-- the same, of a host that may not tell its state
abbrev pub MayLeaveNow : Option State → Left → Type 0
MayLeaveNow None left = Unit {0}
MayLeaveNow (Some s) left = MayLeave s left

-- what a crash may leave while these bytes are printed: a front of them is there
abbrev pub MayLeaveInPrint : List ℕ → Option State → Left → Type 0
MayLeaveInPrint bytes old left =
    (part rest : List ℕ) × (bytes ≡ part ++ rest) × MayLeaveNow (option_map (printed part) old) left

-- Time goes on: a crash since t might have left what it might have left before, or something of these.
pub record Elapses
    {H : Type 0} (moment : H → ℕ) (left_since : H → ℕ → Left → Type 0) (old new : H)
    (these : Left → Type 0) : Type 0 where
  pub later : moment old ≤ moment new
  pub nothing_else :
      (t : ℕ) (left : Left) → t ≤ moment old → left_since new t left
      → left_since old t left ⊎ these left
  pub keeps :
      (t : ℕ) (left : Left) → t ≤ moment old → left_since old t left → left_since new t left

-- each of these might have been left by a crash since the earlier host
abbrev pub Passes :
    {H : Type 0} → (H → ℕ) → (H → ℕ → Left → Type 0) → H → H → (Left → Type 0) → Type 0
Passes moment left_since old new these =
    (t : ℕ) (left : Left) → t ≤ moment old → these left → left_since new t left

-- A crash at any moment since old leaves something that has P.
pub record LeavesOnly
    {H : Type 0} (moment : H → ℕ) (left_since : H → ℕ → Left → Type 0) (old new : H)
    (P : Left → Type 0) : Type 0 where
  pub later : moment old ≤ moment new
  pub each : (left : Left) → left_since new (moment old) left → P left
  -- for a run that began earlier
  pub before :
      (t : ℕ) (left : Left) → t ≤ moment old → left_since new t left
      → left_since old t left ⊎ P left

-- ---- the moments of a host

-- a state that a host was in, and the bytes that were then printed, if any
abbrev pub Moment : Type 0
Moment = State × List ℕ

-- what a crash may have left at one of these moments
abbrev pub LeftBy : List Moment → Left → Type 0
LeftBy [] left = ⊥
LeftBy (m ∷ past) left = MayLeaveInPrint m.1 (Some m.0) left ⊎ LeftBy past left

-- what a crash may have left in that state, or at the moment of that number or a later one
abbrev pub LeftSince : State → List Moment → ℕ → Left → Type 0
LeftSince s past t left = MayLeave s left ⊎ LeftBy (drop t past) left
