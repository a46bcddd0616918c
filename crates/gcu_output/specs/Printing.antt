-- What printing the whole output of an answer leaves.
use Rattle.std.specs.Prelude.{◌≡◌, ◌⊎◌, ◌++◌, ℕ, List, Option, option_map, Ok, Err, ⊤, Bool, true, false, Result}
use Rattle.host_core.specs.Counts.{Counts, Rose}
use Rattle.host_core.specs.Crashes.{Left, MayLeaveInPrint}
use Rattle.host_core.specs.State.{State, printed, PrintsPart}
use Rattle.conf_doc.specs.Document.{Document}
use Rattle.conf_doc.specs.Texts.{line_feed, pretty_text}
use Rattle.gcu_output.specs.Lines.{last_line}
use Rattle.gcu_output.specs.declared.outcomes.Outcome.{Outcome}
use Rattle.gcu_output.specs.declared.outcomes.Outcome.TheVariants.{Memory, PrintFault, Done, DiskFault, ServiceFault}

-- the text of a document in lines, and a line feed
abbrev pub text_in_lines : Document → List ℕ
text_in_lines d = pretty_text d ++ line_feed

-- the answer and all of its text, or a print fault and a front of it
abbrev pub IsPrinted : Outcome → List ℕ
    → Option State → Option State → Counts → Counts → Outcome → Type 0
IsPrinted answer text before after old new result =
    ((result ≡ answer) × (after ≡ option_map (printed text) before))
    ⊎ ((result ≡ PrintFault 0) × PrintsPart text before after × Rose old.print new.print)

-- the answer, or want of memory in its place
abbrev pub IsSaid : Outcome → List ℕ
    → Option State → Option State → Counts → Counts → Outcome → Type 0
IsSaid answer text before after old new result =
    IsPrinted answer text before after old new result
    ⊎ IsPrinted Memory (last_line Memory) before after old new result

-- what a crash leaves while a text is printed, or the last line of Memory in its place
abbrev pub LeftInText : List ℕ → Option State → Left → Type 0
LeftInText text told left =
    MayLeaveInPrint text told left ⊎ MayLeaveInPrint (last_line Memory) told left

-- ---- a command that writes

-- a refusal before any restart, and where it is a fault of the disk it comes after no acknowledgement
abbrev pub IsBeforeAnyStep : Outcome → Type 0
IsBeforeAnyStep Done = ⊥
IsBeforeAnyStep (DiskFault step) = step ≡ 0
IsBeforeAnyStep (ServiceFault step service) = ⊥
IsBeforeAnyStep other = ⊤

-- the outcome of what was done or refused
abbrev pub outcome_of : Result (Unit {0}) Outcome → Outcome
outcome_of (Ok done) = Done
outcome_of (Err e) = e

-- a fault of the disk
abbrev pub is_disk_fault : Outcome → Bool
is_disk_fault (DiskFault step) = true
is_disk_fault other = false

-- an answer that something may have been written before, so that its line asks for no memory
abbrev pub may_have_written : Outcome → Bool
may_have_written Done = true
may_have_written (ServiceFault step service) = true
may_have_written other = is_disk_fault other

-- the answer that is printed; for want of memory another one may be, unless none is asked for
abbrev pub IsTold : Bool → Outcome
    → Option State → Option State → Counts → Counts → Outcome → Type 0
IsTold true answer = IsPrinted answer (last_line answer)
IsTold false answer = IsSaid answer (last_line answer)

-- what a crash leaves while it is printed
abbrev pub LeftInTold : Bool → Outcome → Option State → Left → Type 0
LeftInTold true answer = MayLeaveInPrint (last_line answer)
LeftInTold false answer = LeftInText (last_line answer)
