-- The folder as a scope shows it: its files under their plain names.
use Rattle.std.specs.Prelude.{◌≡◌, ◌⊎◌, ◌≤◌, ℕ, Bool, true, false, List, Option, Some, None, option_map, is_some, IfSome}
use Rattle.std.specs.FinMap.{entries, from_entries, get}
use Rattle.std.specs.List.{filter_map}
use Rattle.std.specs.Option.{option_map_or}
use Rattle.host_core.specs.Crashes.{Left, Image}
use Rattle.host_core.specs.State.{Files, IsFront, Pending, settled, dirty, listing, State}
use Rattle.scopes.specs.Files.{plain_name}
use Rattle.scopes.specs.declared.scope.Scope.{Scope}

-- a file under its plain name, where the scope has it
abbrev pub shown : Scope → List ℕ × List ℕ → Option (List ℕ × List ℕ)
shown scope file = option_map (λ plain. (plain, file.1)) (plain_name scope file.0)

-- the files of a scope
abbrev pub seen_files : Scope → Files → Files
seen_files scope files = from_entries (filter_map (shown scope) (entries files))

-- What a crash may still undo of them. Where it is the bytes of a file that the scope does not have,
-- its files stay as they are.
abbrev pub seen_pending : Scope → Pending → Files → Pending
seen_pending scope settled files = settled
seen_pending scope (dirty name) files =
    option_map_or dirty (plain_name scope name) (listing (seen_files scope files))
seen_pending scope (listing before) files = listing (seen_files scope before)

-- a crash undoes nothing
abbrev pub is_clean : Pending → Bool
is_clean settled = true
is_clean (dirty name) = false
is_clean (listing before) = false

-- the same of a host that may not tell its state
abbrev pub tells_clean : Option State → Bool
tells_clean None = true
tells_clean (Some s) = is_clean s.pending

-- the state that a scope shows: its files, and all else as it is
abbrev pub seen : Scope → State → State
seen scope s = record s {
  files = seen_files scope s.files;
  pending = seen_pending scope s.pending s.files;
}

-- what a scope shows of what a crash left
abbrev pub seen_left : Scope → Left → Left
seen_left scope left = record left { files = seen_files scope left.files }

-- a scope shows that of one of these
abbrev pub IsSeen : Scope → (Left → Type 0) → Left → Type 0
IsSeen scope these left = (whole : Left) × these whole × (left ≡ seen_left scope whole)

-- ---- the files of others

-- the files that the scope does not have are the same
abbrev pub AreOthersSame : Scope → Files → Files → Type 0
AreOthersSame scope before after =
    (name : List ℕ) → plain_name scope name ≡ None → get after name ≡ get before name

-- a crash leaves them as they are
abbrev pub AreOthersSettled : Scope → State → Type 0
AreOthersSettled scope s =
    (left : Files) → Image s.pending s.files left → AreOthersSame scope s.files left

-- ---- what came out

-- what was printed and restarted in that state is the front of this
abbrev pub CameBefore : State → List ℕ → List (List ℕ) → Type 0
CameBefore s output restarts = IsFront s.output output × IsFront s.restarts restarts

-- ---- later

-- A host later, of which only a scope's files were changed in between. Where nothing of the others was
-- pending they are the same, and so they were after a crash at any moment; what came out only grew.
pub record KeepsOthers
    {H : Type 0} (told : H → Option State) (moment : H → ℕ) (left_since : H → ℕ → Left → Type 0)
    (scope : Scope) (old new : H) : Type 0 where
  pub later : moment old ≤ moment new
  pub tells : is_some (told new) ≡ is_some (told old)
  pub now :
      IfSome (told old) (λ s. AreOthersSettled scope s → IfSome (told new) (λ t.
      AreOthersSame scope s.files t.files × AreOthersSettled scope t))
  pub ever :
      IfSome (told old) (λ s. AreOthersSettled scope s → (t : ℕ) (left : Left)
      → t ≤ moment old → left_since new t left
      → left_since old t left ⊎ AreOthersSame scope s.files left.files)
  pub grows :
      IfSome (told old) (λ s. IfSome (told new) (λ t. CameBefore s t.output t.restarts))
  pub holds :
      IfSome (told old) (λ s. (t : ℕ) (left : Left) → t ≤ moment old → left_since new t left
      → left_since old t left ⊎ CameBefore s left.output left.restarts)
