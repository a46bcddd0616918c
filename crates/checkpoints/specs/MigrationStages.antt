-- The stages through which a migration goes, each with what the host tells then.
use Rattle.std.specs.Prelude.{◌≡◌, ℕ, suc, List, All, take, Option, Some, None, IfSome}
use Rattle.host_core.specs.Crashes.{Left, LeavesOnly}
use Rattle.host_core.specs.State.{Files, State}
use Rattle.checkpoints.specs.Migrations.{IsDue, NewFile}
use Rattle.checkpoints.specs.MigrationCrashes.{IsLeft}
use Rattle.checkpoints.specs.MigrationEnds.{ArePut, worked}

-- the first files are put anew, the lines of so many are printed, and each may be put
abbrev pub AtStage :
    (news done told : List NewFile) → Option State → Option State → Type 0
AtStage news done told None now = now ≡ None
AtStage news done told (Some began) now =
    (files : Files) × (now ≡ Some (worked files told began)) × ArePut done began.files files
    × All (λ new. IsDue new files) news

-- the first k are put anew and told
abbrev pub AtStep : List NewFile → ℕ → Option State → Option State → Type 0
AtStep news k = AtStage news (take k news) (take k news)

-- the next one is put anew and not told yet
abbrev pub AtPut : List NewFile → ℕ → Option State → Option State → Type 0
AtPut news k = AtStage news (take (suc k) news) (take k news)

-- it is at that stage of some beginning
abbrev pub HasStage : (Option State → Option State → Type 0) → Option State → Type 0
HasStage P now = (began : Option State) × P began now

-- from the one stage to the other, of each beginning
abbrev pub Leads :
    (P Q : Option State → Option State → Type 0) → Option State → Option State → Type 0
Leads P Q old new = (began : Option State) → P began old → Q began new

-- a crash at any moment since that stage leaves this, of each beginning of the migration
abbrev pub LeavesAt :
    {H : Type 0} → (H → ℕ) → (H → ℕ → Left → Type 0) → (H → Option State) → List NewFile
    → (Option State → Option State → Type 0) → H → H → Type 0
LeavesAt moment left_since told news P old new =
    (began : Option State) → P began (told old)
    → IfSome began (λ s. LeavesOnly moment left_since old new (IsLeft news s))
