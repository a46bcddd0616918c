-- What a command leaves and answers that asks a stated question, for commands in functions of their own.
use Rattle.std.specs.Prelude.{◌≡◌, Option, Some, None, IfSome, ⊤}
use Rattle.host_core.specs.Counts.{Counts, NoneRose}
use Rattle.host_core.specs.Crashes.{Image, Left}
use Rattle.host_core.specs.State.{Files, State}
use Rattle.conf_store.specs.Changes.{Changes}
use Rattle.gcu_output.specs.Lines.{last_line}
use Rattle.gcu_output.specs.declared.outcomes.Outcome.{Outcome}
use Rattle.gcu_output.specs.declared.outcomes.Outcome.TheVariants.{DiskFault}
use Rattle.gcu_inputs.specs.Asking.{Asking}
use Rattle.gcu_requests.specs.Request.{Request}
use Rattle.command_answers.specs.Answers.{Complete, Leaves, Says}
use Rattle.command_answers.specs.Crashes.{LeftEarly, LeftOf, LeftOfChange, LeftOfMigration}

-- what is left, with that answer
abbrev pub AnswersTo : (State → Asking Request)
    → Option State → Option State → Counts → Counts → Outcome → Type 0
AnswersTo asking None after old new result = after ≡ None
AnswersTo asking (Some before) after old new result =
    Leaves (asking before) before after old new result

-- what a crash leaves meanwhile
abbrev pub LeftTo : (State → Asking Request) → Option State → Left → Type 0
LeftTo asking None left = ⊤
LeftTo asking (Some before) left = LeftOf (asking before) before left

-- what a crash leaves meanwhile of a migration
abbrev pub LeftToMigration : (State → Asking Request) → Option State → Left → Type 0
LeftToMigration asking None left = ⊤
LeftToMigration asking (Some before) left = LeftOfMigration (asking before) before left

-- what a question leaves while nothing is written, of a host that may not tell its state
abbrev pub LeftToEarly : (State → Asking Request) → Option State → Left → Type 0
LeftToEarly asking None left = ⊤
LeftToEarly asking (Some before) left = LeftEarly (asking before) before left

-- what a question leaves whose task is done
abbrev pub LeftToChange : (State → Asking Request) → Option State → Left → Type 0
LeftToChange asking None left = ⊤
LeftToChange asking (Some before) left = LeftOfChange (asking before) before left

-- the answer where nothing failed
abbrev pub CompleteTo : (State → Asking Request)
    → Option State → Counts → Counts → Outcome → Type 0
CompleteTo asking told old new result =
    IfSome told (λ s. NoneRose old new → Complete (asking s) result)

-- ---- a command that writes

-- after a fault of the disk the files are changed like this, and after another refusal nothing is changed
abbrev pub LeavesRefused : (Files → Files → Type 0)
    → Option State → Option State → Outcome → Type 0
LeavesRefused P old new (DiskFault step) = Changes P old new
LeavesRefused P old new other = new ≡ old

-- it is so after another refusal than a fault of the disk
abbrev pub UnlessDiskFault : Type 0 → Outcome → Type 0
UnlessDiskFault P (DiskFault step) = ⊤
UnlessDiskFault P other = P

-- what a crash leaves while nothing is written: the files as it may have left them before
abbrev pub LeftUnwritten : Option State → Left → Type 0
LeftUnwritten told left = IfSome told (λ s. Image s.pending s.files left.files)

-- what is there once nothing but the last line of an answer is left to be printed
abbrev pub IsReady : (State → Asking Request)
    → Option State → Option State → Outcome → Type 0
IsReady asking None after out = after ≡ None
IsReady asking (Some before) after out =
    (now : State) × (after ≡ Some now) × Says (asking before) before now out (last_line out)
    × (now.output ≡ before.output)
