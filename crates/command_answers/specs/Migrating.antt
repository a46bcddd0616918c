-- What a migration of checkpoints leaves and has printed: finished, or stopped.
use Rattle.std.specs.Prelude.{◌≡◌, ◌⊎◌, ◌≤◌, ℕ, List, ◌++◌, length, take, Some, Ok}
use Rattle.host_core.specs.Crashes.{Left}
use Rattle.host_core.specs.State.{State, settled, with_pending}
use Rattle.checkpoints.specs.Migrations.{NewFile}
use Rattle.checkpoints.specs.MigrationCrashes.{IsLeft}
use Rattle.checkpoints.specs.MigrationEnds.{Finishes, IsStoppedBy}
use Rattle.checkpoints.specs.MigrationLines.{lines_text}
use Rattle.checkpoints.specs.declared.errors.MigrateFault.{MigrateFault}
use Rattle.gcu_output.specs.Lines.{last_line}
use Rattle.gcu_output.specs.declared.outcomes.Outcome.{Outcome}
use Rattle.gcu_inputs.specs.Asking.{Asking}
use Rattle.gcu_requests.specs.Request.{Request, migrate_checkpoints}

-- all are put anew and told; what was pending is settled first
abbrev pub IsMigrated : List NewFile → State → State → Type 0
IsMigrated news before now = Finishes news (Some (with_pending settled before)) (Some now)

-- it is stopped by this fault
abbrev pub IsMigrationStopped : List NewFile → MigrateFault → State → State → Type 0
IsMigrationStopped news fault before now =
    IsStoppedBy news fault (with_pending settled before) now

-- a migration is asked for, and the lines of the first so many of its checkpoints are printed
abbrev pub AreTold : Asking Request → ℕ → State → State → Type 0
AreTold asking step before now =
    (news : List NewFile) × asking.Gives (Ok (migrate_checkpoints news)) × (step ≤ length news)
    × (now.output ≡ before.output ++ lines_text (take step news))

-- what is left while the last line is printed behind the lines of some
pub record LeftInLastLine (news : List NewFile) (began : State) (left : Left) : Type 0 where
  pub told : List NewFile
  pub answer : Outcome
  pub part : List ℕ
  pub rest : List ℕ
  pub line : last_line answer ≡ part ++ rest
  pub output : left.output ≡ began.output ++ lines_text told ++ part
  pub is : IsLeft news began (record left { output = began.output ++ lines_text told })

-- what a migration that began so leaves
abbrev pub LeftMigrating : List NewFile → State → Left → Type 0
LeftMigrating news began left = IsLeft news began left ⊎ LeftInLastLine news began left
