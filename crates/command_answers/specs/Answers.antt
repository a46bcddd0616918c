-- Which answers a command may give to what is asked, what it then leaves and has printed, and what a fault
-- needs.
use Rattle.std.specs.Prelude.{◌≡◌, ◌⊎◌, ℕ, List, [], ◌++◌, length, Option, Some, None, Ok, Err, ⊤}
use Rattle.host_core.specs.Counts.{Counts, Rose}
use Rattle.host_core.specs.State.{Files, State, printed, settled, with_pending}
use Rattle.conf_doc.specs.Texts.{file_text}
use Rattle.conf_store.specs.Changes.{Leads}
use Rattle.checkpoints.specs.Changes.{IsDeleted, IsDeletedOrNot, IsSaved, IsSavedOrNot}
use Rattle.checkpoints.specs.Migrations.{NewFile}
use Rattle.checkpoints.specs.declared.errors.MigrateFault.TheVariants as migration_fault
use Rattle.move_core.specs.declared.moves.Move.{Move}
use Rattle.change_apply.specs.Change.{name_at}
use Rattle.change_apply.specs.Intents.{IsClosedOrNot}
use Rattle.change_apply.specs.declared.errors.ApplyFault.TheVariants.{Disk, Service}
use Rattle.gcu_output.specs.Lines.{last_line, service_line}
use Rattle.gcu_output.specs.Statuses.{status_text}
use Rattle.gcu_output.specs.declared.outcomes.Outcome.{Outcome}
use Rattle.gcu_output.specs.declared.outcomes.Outcome.TheVariants.{Done, Memory, Usage, InputFault, DiskFault, PrintFault, ServiceFault, Unorderable, Budget}
use Rattle.gcu_inputs.specs.Asking.{Asking, an_input, a_file, a_settling}
use Rattle.gcu_requests.specs.Asked.{asked}
use Rattle.gcu_requests.specs.Request.{Request, Work, abandon, accept_plan, change, check, ctx_of, delete_checkpoint, demo, list_checkpoints, migrate_checkpoints, plan, plan_scopes, preview, save_checkpoint, status}
use Rattle.command_answers.specs.Changing.{AreAcknowledged, IsChanged, IsCutShort, IsHalted, closed}
use Rattle.command_answers.specs.Migrating.{AreTold, IsMigrated, IsMigrationStopped}
use Rattle.command_answers.specs.Plannings.{IsPlanFor, IsUnsolved}
use Rattle.command_answers.specs.PointLines.{point_lines}
use Rattle.command_answers.specs.ScopeTexts.{scopes_text}
use Rattle.command_answers.specs.Summary.{summary, yes_line}
use Rattle.command_answers.specs.Works.{IsWorkOf}

-- a fault is told only where its count rose
abbrev pub HasCause : Counts → Counts → Outcome → Type 0
HasCause old new InputFault = Rose old.input new.input
HasCause old new (DiskFault step) = Rose old.disk new.disk
HasCause old new (PrintFault step) = Rose old.print new.print
HasCause old new (ServiceFault step service) = Rose old.service new.service
HasCause old new other = ⊤

-- ---- what is there before the output

-- all is as before, or what was pending is settled where that is asked
abbrev pub IsUntouched : Asking Request → State → State → Type 0
IsUntouched asking before now =
    (now ≡ before) ⊎ (asking.Reads a_settling × (now ≡ with_pending settled before))

-- what a request leaves that is done
abbrev pub LeavesDone : Request → State → State → Type 0
LeavesDone (delete_checkpoint name) before now =
    (files : Files) × (now ≡ record before { files = files; pending = settled })
    × IsDeleted name before.files files
LeavesDone (save_checkpoint name config) before now =
    (files : Files) × (now ≡ record before { files = files; pending = settled })
    × IsSaved name config before.files files
LeavesDone (migrate_checkpoints news) before now = IsMigrated news before now
LeavesDone (change w) before now = IsChanged w before now
LeavesDone abandon before now = now ≡ closed before
LeavesDone other before now = now ≡ before

-- what a request leaves that a fault of the disk stops once it has begun to write, after so many
-- acknowledgements
abbrev pub LeavesStopped : Request → ℕ → State → State → Type 0
LeavesStopped (delete_checkpoint name) step before now =
    (step ≡ 0) × Leads (IsDeletedOrNot name) (with_pending settled before) now
LeavesStopped (save_checkpoint name config) step before now =
    (step ≡ 0) × Leads (IsSavedOrNot name config) (with_pending settled before) now
LeavesStopped (migrate_checkpoints news) step before now =
    IsMigrationStopped news (migration_fault.Disk step) before now
LeavesStopped (change w) step before now = IsHalted w (Disk step) before now
LeavesStopped abandon step before now =
    (step ≡ 0) × Leads IsClosedOrNot (with_pending settled before) now
LeavesStopped other step before now = ⊥

-- what a fault of the disk leaves: nothing is done, or a request that is right is stopped
abbrev pub IsStopped : Asking Request → ℕ → State → State → Type 0
IsStopped asking step before now =
    ((step ≡ 0) × IsUntouched asking before now)
    ⊎ ((r : Request) × asking.Gives (Ok r) × LeavesStopped r step before now)

-- ---- the output

-- what is printed where the command did all that was requested, behind a plan that is only printed; what a
-- change printed before its last line is there already
abbrev pub done_output : Request → List ℕ
done_output (preview c) = file_text c ++ last_line Done
done_output (list_checkpoints all) = point_lines all ++ last_line Done
done_output check = last_line Done
done_output (migrate_checkpoints news) = last_line Done
done_output (save_checkpoint name config) = last_line Done
done_output (delete_checkpoint name) = last_line Done
done_output (plan w) = last_line Done
done_output (change w) = last_line Done
done_output (status intent steps) = status_text intent steps ++ last_line Done
done_output abandon = last_line Done
done_output (demo p ports) = last_line Done
done_output (accept_plan count) = yes_line count ++ last_line Done
done_output (plan_scopes plans) = scopes_text plans ++ last_line Done

-- the same with what is printed before some work, where that is requested, or with how many moves a plan has
abbrev pub IsDoneOutput : Request → List ℕ → Type 0
IsDoneOutput (plan w) output =
    (ms : List Move) × (text : List ℕ) × IsWorkOf w ms text
    × (output ≡ text ++ done_output (plan w))
IsDoneOutput (demo p ports) output =
    (ms : List Move) × IsPlanFor p ms
    × (output ≡ summary ports (length ms) ++ done_output (demo p ports))
IsDoneOutput other output = output ≡ done_output other

-- a plan is requested, and none is found for that reason
abbrev pub EndsSearch : Asking Request → Outcome → Type 0
EndsSearch asking answer = (r : Request) × asking.Gives (Ok r) × IsUnsolved r answer

-- what is there before the output with that answer, and the whole output; a fault is answered only where a
-- call of its kind is made
abbrev pub Says : Asking Request → State → State → Outcome → List ℕ → Type 0
Says asking before now Done output =
    (r : Request) × asking.Gives (Ok r) × LeavesDone r before now × IsDoneOutput r output
Says asking before now Memory output = IsUntouched asking before now × (output ≡ last_line Memory)
Says asking before now InputFault output =
    asking.Reads an_input × IsUntouched asking before now × (output ≡ last_line InputFault)
Says asking before now (DiskFault step) output =
    asking.Reads a_file × IsStopped asking step before now × (output ≡ last_line (DiskFault step))
Says asking before now (PrintFault step) output = ⊥
Says asking before now (ServiceFault step service) output =
    (w : Work) × asking.Gives (Ok (change w)) × IsHalted w (Service step service) before now
    × (output ≡ service_line step service (name_at (ctx_of w).settings service))
Says asking before now Unorderable output =
    EndsSearch asking Unorderable × IsUntouched asking before now × (output ≡ last_line Unorderable)
Says asking before now (Budget n) output =
    EndsSearch asking (Budget n) × IsUntouched asking before now × (output ≡ last_line (Budget n))
Says asking before now other output =
    asking.Gives (Err other) × IsUntouched asking before now × (output ≡ last_line other)

-- a front of what some other answer says
abbrev pub SaysPart : Asking Request → State → State → Counts → Counts → List ℕ → Type 0
SaysPart asking before now old new output =
    (other : Outcome) × (rest : List ℕ)
    × HasCause old new other × Says asking before now other (output ++ rest)

-- the output with that answer, which a print fault cuts short after so many acknowledgements: the last line,
-- or what a change prints before it
abbrev pub Prints : Asking Request
    → State → State → Counts → Counts → Outcome → List ℕ → Type 0
Prints asking before now old new (PrintFault step) output =
    ((AreAcknowledged step before now ⊎ AreTold asking step before now)
    × SaysPart asking before now old new output)
    ⊎ (((w : Work) × asking.Gives (Ok (change w)) × IsCutShort w step before now output)
    ⊎ ((news : List NewFile) × asking.Gives (Ok (migrate_checkpoints news))
    × IsMigrationStopped news (migration_fault.Print step) before now × (output ≡ [])))
Prints asking before now old new other output = Says asking before now other output

-- what is left with that answer: what is there before the output, and the output
abbrev pub Leaves : Asking Request
    → State → Option State → Counts → Counts → Outcome → Type 0
Leaves asking before after old new result =
    (now : State) × (output : List ℕ) × (after ≡ Some (printed output now))
    × Prints asking before now old new result output

-- What a command leaves of a host that tells its state, and which answer that is. It goes by what the words
-- ask of that state.
abbrev pub Answers : List (List ℕ)
    → Option State → Option State → Counts → Counts → Outcome → Type 0
Answers words None after old new result = after ≡ None
Answers words (Some before) after old new result =
    Leaves (asked words before) before after old new result

-- ---- which answers there are

-- the answer to words that are no command, unless it can't be told
abbrev pub TellsUsage : Outcome → Type 0
TellsUsage Usage = ⊤
TellsUsage Memory = ⊤
TellsUsage (PrintFault step) = ⊤
TellsUsage other = ⊥

-- an answer that nothing may have been written before: another one than those of 0, 4, 5 and 6
abbrev pub IsRefusal : Outcome → Type 0
IsRefusal Done = ⊥
IsRefusal (DiskFault step) = ⊥
IsRefusal (PrintFault step) = ⊥
IsRefusal (ServiceFault step service) = ⊥
IsRefusal other = ⊤

-- the answers to a request where nothing failed, but for want of memory
abbrev pub Finishes : Request → Outcome → Type 0
Finishes (preview c) result = result ≡ Done
Finishes (list_checkpoints all) result = result ≡ Done
Finishes check result = result ≡ Done
Finishes (migrate_checkpoints news) result = result ≡ Done
Finishes (save_checkpoint name config) result = result ≡ Done
Finishes (delete_checkpoint name) result = result ≡ Done
Finishes (plan w) result = (result ≡ Done) ⊎ IsUnsolved (plan w) result
Finishes (change w) result = (result ≡ Done) ⊎ IsUnsolved (change w) result
Finishes (status intent steps) result = result ≡ Done
Finishes abandon result = result ≡ Done
Finishes (demo p ports) result = (result ≡ Done) ⊎ IsUnsolved (demo p ports) result
Finishes (accept_plan count) result = result ≡ Done
Finishes (plan_scopes plans) result = result ≡ Done

-- the answers where nothing failed: for want of memory, the refusal, or what the request says
abbrev pub Complete : Asking Request → Outcome → Type 0
Complete asking result =
    (result ≡ Memory)
    ⊎ (asking.Gives (Err result)
    ⊎ ((r : Request) × asking.Gives (Ok r) × Finishes r result))
