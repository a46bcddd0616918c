-- How a change of several scopes ends once the text of all plans is printed, and what it answers.
use Rattle.std.specs.Prelude.{◌≡◌, ◌⊎◌, ℕ, List, ◌++◌, Option, Some, None, option_map}
use Rattle.std.specs.FinMap.{get}
use Rattle.std.specs.List.{AllByRecursion}
use Rattle.host_core.specs.Counts.{Counts}
use Rattle.host_core.specs.State.{Files, PrintsPart, State, printed}
use Rattle.conf_store.specs.Files.{intent_file}
use Rattle.change_apply.specs.Ends.{IsStoppedInRestarts}
use Rattle.change_apply.specs.declared.errors.ApplyFault.TheVariants.{Disk, Print, Service}
use Rattle.scopes.specs.Views.{seen, seen_files}
use Rattle.scope_changes.specs.Ends.{FinishesAll, IsStoppedWithin, StopsAll, begun}
use Rattle.scope_changes.specs.Works.{ScopeWork, all_steps}
use Rattle.gcu_output.specs.Lines.{last_line, service_line}
use Rattle.gcu_output.specs.declared.outcomes.Outcome.{Outcome}
use Rattle.gcu_output.specs.declared.outcomes.Outcome.TheVariants.{Done, DiskFault, PrintFault, ServiceFault}
use Rattle.command_answers.specs.Answers.{HasCause, Leaves}
use Rattle.scope_commands.specs.ScopeWorks.{AreWorks, refused_asked, works_text}

-- ---- the last line

-- the restart of that service was refused, which was due next in the change of a scope
pub record IsRefusedRestart (works : List ScopeWork) (step service : ℕ) (before after : State)
    : Type 0 where
  pub within : IsStoppedWithin works (Service step service) before after
  pub own : ℕ
  pub inner : within.inner ≡ Service own service
  pub restart :
      IsStoppedInRestarts within.at.change own service
      (begun within.done within.at before) (seen within.at.scope after)

-- no scope has an intent
abbrev pub AreClosed : List ScopeWork → Files → Type 0
AreClosed works files =
    AllByRecursion (λ w. get (seen_files w.scope files) intent_file ≡ None) works

-- that text is the last line of the answer, in the state that the changes then left
abbrev pub IsLastOfAll : List ScopeWork → State → State → Outcome → List ℕ → Type 0
IsLastOfAll works began now Done text =
    FinishesAll works (Some began) (Some now) × (text ≡ last_line Done)
    × AreClosed works now.files
IsLastOfAll works began now (DiskFault step) text =
    StopsAll works (Disk step) (Some began) (Some now) × (text ≡ last_line (DiskFault step))
IsLastOfAll works began now (ServiceFault step service) text =
    (h : IsRefusedRestart works step service began now)
    × (text ≡ service_line step service h.restart.refused.name)
IsLastOfAll works began now other text = ⊥

-- how many steps of all scopes are acknowledged before that answer
abbrev pub acknowledged_in : List ScopeWork → Outcome → ℕ
acknowledged_in works (DiskFault step) = step
acknowledged_in works (ServiceFault step service) = step
acknowledged_in works other = all_steps works

-- ---- once the text of all plans is printed

-- the changes were done or one was stopped, and the last line printed
abbrev pub IsToldOfAll : List ScopeWork → State → Option State → Outcome → Type 0
IsToldOfAll works began after result =
    (now : State) × (text : List ℕ) × IsLastOfAll works began now result text
    × (after ≡ Some (printed text now))

-- a front of the last line is printed
abbrev pub IsCutInLastOfAll :
    List ScopeWork → State → Option State → Counts → Counts → Outcome → Type 0
IsCutInLastOfAll works began after old new result =
    (now : State) × (answer : Outcome) × (part : List ℕ) × (rest : List ℕ)
    × IsLastOfAll works began now answer (part ++ rest) × HasCause old new answer
    × (result ≡ PrintFault (acknowledged_in works answer)) × (after ≡ Some (printed part now))

-- a front of an acknowledgement is printed, or of the line before the change of a scope
abbrev pub IsCutInWork : List ScopeWork → State → Option State → Outcome → Type 0
IsCutInWork works began after result =
    (now : State) × (step : ℕ) × StopsAll works (Print step) (Some began) (Some now)
    × (result ≡ PrintFault step) × (after ≡ Some now)

-- one of the three
abbrev pub EndsWorks : List ScopeWork
    → Option State → Option State → Counts → Counts → Outcome → Type 0
EndsWorks works None after old new result = after ≡ None
EndsWorks works (Some began) after old new result =
    IsToldOfAll works began after result
    ⊎ (IsCutInLastOfAll works began after old new result ⊎ IsCutInWork works began after result)

-- ---- all of it

-- a front of the text of all plans is printed, or all of it
abbrev pub EndsScopes : List ScopeWork
    → Option State → Option State → Counts → Counts → Outcome → Type 0
EndsScopes works before after old new result =
    ((result ≡ PrintFault 0) × PrintsPart (works_text works) before after)
    ⊎ EndsWorks works (option_map (printed (works_text works)) before) after old new result

-- what is refused is told, or the changes are done that the patch asks for
abbrev pub AnswersScopes : List ℕ → ℕ
    → Option State → Option State → Counts → Counts → Outcome → Type 0
AnswersScopes path budget None after old new result = after ≡ None
AnswersScopes path budget (Some before) after old new result =
    Leaves (refused_asked path budget before) before after old new result
    ⊎ ((works : List ScopeWork) × AreWorks path budget before works
    × EndsScopes works (Some before) after old new result)
