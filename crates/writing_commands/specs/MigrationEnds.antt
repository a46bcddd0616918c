-- What the part of `migrate-checkpoints` that writes answers and leaves.
use Rattle.std.specs.Prelude.{◌≡◌, ◌⊎◌, ℕ, suc, List, ◌++◌, length, Option, Some, None}
use Rattle.host_core.specs.Counts.{Counts}
use Rattle.host_core.specs.State.{State, printed}
use Rattle.checkpoints.specs.Migrations.{NewFile}
use Rattle.checkpoints.specs.MigrationEnds.{Finishes, IsStoppedBy}
use Rattle.checkpoints.specs.MigrationLines.{lines_of}
use Rattle.checkpoints.specs.declared.errors.MigrateFault.TheVariants.{Disk, Print}
use Rattle.gcu_output.specs.Lines.{last_line}
use Rattle.gcu_output.specs.declared.outcomes.Outcome.{Outcome}
use Rattle.gcu_output.specs.declared.outcomes.Outcome.TheVariants.{Done, DiskFault, PrintFault}
use Rattle.command_answers.specs.Answers.{HasCause}
use Rattle.writing_commands.specs.FaultLines.{disk_lines}
use Rattle.writing_commands.specs.declared.migrating.ReadyMigration.{ReadyMigration}

-- the lines of its checkpoints are there, and those of a fault of the disk behind each number of them
pub record HasLines (ready : ReadyMigration) : Type 0 where
  pub told : ready.told ≡ lines_of ready.migration
  pub faults : ready.faults ≡ disk_lines (suc (length ready.migration))

-- that text is the last line of the answer, in the state that the migration then left
abbrev pub IsLastOf : List NewFile → State → State → Outcome → List ℕ → Type 0
IsLastOf news began now Done text =
    Finishes news (Some began) (Some now) × (text ≡ last_line Done)
IsLastOf news began now (DiskFault step) text =
    IsStoppedBy news (Disk step) began now × (text ≡ last_line (DiskFault step))
IsLastOf news began now other text = ⊥

-- how many lines are printed before that answer
abbrev pub told_before : List NewFile → Outcome → ℕ
told_before news (DiskFault step) = step
told_before news other = length news

-- the migration was done or stopped, and the last line printed
abbrev pub IsSaidLast : List NewFile → State → Option State → Outcome → Type 0
IsSaidLast news began after result =
    (now : State) × (text : List ℕ) × IsLastOf news began now result text
    × (after ≡ Some (printed text now))

-- a front of the last line is printed
abbrev pub IsCutLast : List NewFile → State → Option State → Counts → Counts → Outcome → Type 0
IsCutLast news began after old new result =
    (now : State) × (answer : Outcome) × (part : List ℕ) × (rest : List ℕ)
    × IsLastOf news began now answer (part ++ rest) × HasCause old new answer
    × (result ≡ PrintFault (told_before news answer)) × (after ≡ Some (printed part now))

-- a front of the line of a checkpoint is printed
abbrev pub IsCutLine : List NewFile → State → Option State → Outcome → Type 0
IsCutLine news began after result =
    (now : State) × (step : ℕ) × IsStoppedBy news (Print step) began now
    × (result ≡ PrintFault step) × (after ≡ Some now)

-- how a migration that is ready ends
abbrev pub EndsMigration :
    List NewFile → Option State → Option State → Counts → Counts → Outcome → Type 0
EndsMigration news None after old new result = after ≡ None
EndsMigration news (Some began) after old new result =
    IsSaidLast news began after result
    ⊎ (IsCutLast news began after old new result ⊎ IsCutLine news began after result)
