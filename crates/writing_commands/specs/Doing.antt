-- What the parts of a command that does a task give and leave.
use Rattle.std.specs.Prelude.{◌≡◌, ◌<◌, ◌≤◌, ◌⊎◌, ℕ, List, [], ◌∷◌, ◌++◌, Bool, true, false, IsSome, length, map, Option, Some, None, Result, Ok, Err, option_map, ⊤}
use Rattle.std.specs.FinMap.{get}
use Rattle.host_core.specs.Counts.{Counts, Rose}
use Rattle.host_core.specs.Crashes.{Left, LeavesOnly, MayLeaveInPrint, MayLeaveNow}
use Rattle.host_core.specs.State.{Files, State, printed, settled, with_pending, PrintsPart}
use Rattle.conf_store.specs.Files.{intent_file}
use Rattle.conf_store.specs.declared.loaded.Stored.{Stored}
use Rattle.move_core.specs.Services.{services_of}
use Rattle.move_core.specs.declared.moves.Move.{Move}
use Rattle.move_core.specs.declared.settings.Settings.{Settings}
use Rattle.change_apply.specs.Change.{Change, change_of, restarts_at, steps}
use Rattle.change_apply.specs.Ends.{IsStoppedBy}
use Rattle.change_apply.specs.declared.errors.ApplyFault.TheVariants.{Print}
use Rattle.gcu_words.specs.Targets.{Target, resumed}
use Rattle.gcu_output.specs.declared.outcomes.Outcome.{Outcome}
use Rattle.gcu_output.specs.declared.outcomes.Outcome.TheVariants.{PrintFault, Unorderable, Budget}
use Rattle.gcu_inputs.specs.Asking.{Asking}
use Rattle.gcu_inputs.specs.Preparing.{FailsIn, StandsIn, refusal}
use Rattle.gcu_requests.specs.ReadScripts.{operating_of}
use Rattle.gcu_requests.specs.Request.{Request, Work, operated}
use Rattle.gcu_requests.specs.declared.session_preparing.Operating.{Operating}
use Rattle.writing_commands.specs.FaultLines.{AreFaultLines, AreNamed}
use Rattle.command_answers.specs.Answers.{HasCause}
use Rattle.command_answers.specs.Changing.{IsBegun, IsChangeFor, IsLast, acknowledged}
use Rattle.command_answers.specs.Commands.{IsReady, LeftTo, LeftUnwritten}
use Rattle.command_answers.specs.Crashes.{LeftChanged}
use Rattle.command_answers.specs.Plannings.{HasNoWork}
use Rattle.command_answers.specs.Works.{IsWorkOf}
use Rattle.writing_commands.specs.declared.changing.ReadyChange.{ReadyChange}

-- ---- what is ready

-- the change of some moves on what was loaded, with the services of each
abbrev pub change_by : Settings → Stored → List Move → Change
change_by settings what ms = change_of what ms (map (services_of settings) ms) settings

-- the bytes are those of the change
pub record HasBytes (ready : ReadyChange) : Type 0 where
  pub steps_are : ready.steps ≡ steps ready.ready
  pub long : length ready.ready.restarts ≡ steps ready.ready
  pub lines_are : AreFaultLines ready.ready.restarts ready.lines
  pub settings : Settings
  pub named : (k : ℕ) → AreNamed settings (restarts_at ready.ready k)

-- it does what the operators of a script commit, behind what they are told
pub record IsReadyRun (p : Operating) (ready : ReadyChange) : Type 0 where
  pub moves : List Move
  pub work : IsWorkOf (operated (operating_of p)) moves ready.text.items
  pub change : ready.ready ≡ change_by p.ctx.settings p.stored moves
  pub closes : ready.closes ≡ false

-- no step is left of a change that was stopped
abbrev pub is_over : Target → List Move → Bool
is_over resumed [] = true
is_over resumed (m ∷ ms) = false
is_over other ms = false

-- `intent` is there and to be closed by a change without steps; or it isn't there where there are none
abbrev pub ClosesAs : Bool → Change → Files → Type 0
ClosesAs true c files = (steps c ≡ 0) × IsSome (get files intent_file)
ClosesAs false c files = (0 < steps c) ⊎ (get files intent_file ≡ None)

-- it is the change for the work that is asked of that state, with what is printed before it
abbrev pub IsReadyIn : Asking Work → State → ReadyChange → Type 0
IsReadyIn asking s ready =
    (w : Work) × asking.Gives (Ok w) × IsChangeFor w s ready.ready ready.text.items
    × ClosesAs ready.closes ready.ready s.files

-- nothing is changed, or what was pending is settled
abbrev pub IsKept : Option State → Option State → Type 0
IsKept before now = (now ≡ before) ⊎ (now ≡ option_map (with_pending settled) before)

-- why there is no work: something is refused, or no plan is found
abbrev pub IsMissed : Asking Work → Outcome → Type 0
IsMissed asking Unorderable = (w : Work) × asking.Gives (Ok w) × HasNoWork w Unorderable
IsMissed asking (Budget n) = (w : Work) × asking.Gives (Ok w) × HasNoWork w (Budget n)
IsMissed asking e = FailsIn (refusal e) asking × StandsIn asking e

-- a change that is ready, or why there is none
abbrev pub IsPrepared : Asking Work → State → Result ReadyChange Outcome → Type 0
IsPrepared asking s (Ok ready) = IsReadyIn asking s ready
IsPrepared asking s (Err e) = IsMissed asking e

-- ---- what is answered

-- the answer and all of the line, or a print fault behind so many acknowledgements and a front of it
abbrev pub IsEnded : Outcome → List ℕ → ℕ
    → Option State → Option State → Counts → Counts → Outcome → Type 0
IsEnded answer text step before after old new result =
    ((result ≡ answer) × (after ≡ option_map (printed text) before))
    ⊎ ((result ≡ PrintFault step) × PrintsPart text before after × Rose old.print new.print)

-- the change was done or stopped, and the last line printed
abbrev pub IsTold : Change → State → Option State → Outcome → Type 0
IsTold c began after result =
    (now : State) × (text : List ℕ) × IsLast c began now result text
    × (after ≡ Some (printed text now))

-- a front of the last line is printed
abbrev pub IsCutInLast : Change → State → Option State → Counts → Counts → Outcome → Type 0
IsCutInLast c began after old new result =
    (now : State) × (answer : Outcome) × (part : List ℕ) × (rest : List ℕ)
    × IsLast c began now answer (part ++ rest) × HasCause old new answer
    × (result ≡ PrintFault (acknowledged c answer)) × (after ≡ Some (printed part now))

-- a front of an acknowledgement is printed
abbrev pub IsCutInStep : Change → State → Option State → Outcome → Type 0
IsCutInStep c began after result =
    (now : State) × (step : ℕ) × IsStoppedBy c (Print step) began now
    × (result ≡ PrintFault step) × (after ≡ Some now)

-- once all is printed that stands before it
abbrev pub EndsWork : Change → Option State → Option State → Counts → Counts → Outcome → Type 0
EndsWork c None after old new result = after ≡ None
EndsWork c (Some began) after old new result =
    IsTold c began after result
    ⊎ (IsCutInLast c began after old new result ⊎ IsCutInStep c began after result)

-- the same, wherever it begins then
abbrev pub EndsFrom : Change → Option State → Option State → Counts → Counts → Outcome → Type 0
EndsFrom c None after old new result = after ≡ None
EndsFrom c (Some told) after old new result =
    (began : State) × IsBegun c told began × EndsWork c (Some began) after old new result

-- a front of what is printed before it is printed, or all of that
abbrev pub EndsChange : List ℕ → Change
    → Option State → Option State → Counts → Counts → Outcome → Type 0
EndsChange text c before after old new result =
    ((result ≡ PrintFault 0) × PrintsPart text before after)
    ⊎ EndsFrom c (option_map (printed text) before) after old new result

-- ---- what a crash leaves

-- what a change that is ready leaves from what is printed before it on
abbrev pub LeftDoing : List ℕ → Change → State → Left → Type 0
LeftDoing text c s left =
    MayLeaveInPrint text (Some s) left ⊎ LeftChanged c (printed text s) left

-- a crash leaves what it might have left before, or what P says of the same host with nothing pending
abbrev pub LeavesSettled : {H : Type 0} → (H → ℕ) → (H → ℕ → Left → Type 0) → H → H
    → Option State → (Option State → Left → Type 0) → Type 0
LeavesSettled moment left_since old new o P =
    (t : ℕ) (left : Left) → t ≤ moment old → left_since new t left
    → left_since old t left ⊎ P (option_map (with_pending settled) o) left

-- nothing is written, or what was pending is settled first
abbrev pub SettlesWriting : {H : Type 0} → (H → ℕ) → (H → ℕ → Left → Type 0) → H → H
    → Option State → (Option State → Left → Type 0) → Type 0
SettlesWriting moment left_since old new o P =
    LeavesOnly moment left_since old new (LeftUnwritten o)
    ⊎ LeavesSettled moment left_since old new o P

-- it is settled, and what is left and ready to be told is so of the host with nothing pending
pub record IsOfSettled
    {H : Type 0} (moment : H → ℕ) (left_since : H → ℕ → Left → Type 0) (old new : H)
    (before after : Option State) (asking : State → Asking Request) (out : Outcome) : Type 0 where
  pub settles : LeavesSettled moment left_since old new before (LeftTo asking)
  pub left : (left : Left) → MayLeaveNow after left
      → LeftTo asking (option_map (with_pending settled) before) left
  pub ready : IsReady asking (option_map (with_pending settled) before) after out

-- all is as before, or that
abbrev pub IsKeptOrSettled : {H : Type 0} → (H → ℕ) → (H → ℕ → Left → Type 0) → H → H
    → Option State → Option State → (State → Asking Request) → Outcome → Type 0
IsKeptOrSettled moment left_since old new before after asking out =
    (LeavesOnly moment left_since old new (LeftUnwritten before) × (after ≡ before))
    ⊎ IsOfSettled moment left_since old new before after asking out
