-- What a crash leaves at a moment of a command: whole files, and a front of what the command prints.
use Rattle.std.specs.Prelude.{◌≡◌, ◌⊎◌, ℕ, List, ◌++◌, Option, Some, None, Ok, ⊤}
use Rattle.host_core.specs.Crashes.{Left, MayLeave}
use Rattle.host_core.specs.State.{State, printed, settled, with_pending}
use Rattle.conf_store.specs.Changes.{AreLeft}
use Rattle.checkpoints.specs.Changes.{IsDeletedOrNot, IsSavedOrNot}
use Rattle.checkpoints.specs.Migrations.{NewFile}
use Rattle.checkpoints.specs.Points.{points}
use Rattle.change_apply.specs.Acknowledgements.{acks}
use Rattle.change_apply.specs.Change.{Change}
use Rattle.change_apply.specs.Crashes.{IsLeft}
use Rattle.change_apply.specs.Intents.{IsClosedOrNot}
use Rattle.gcu_output.specs.declared.outcomes.Outcome.{Outcome}
use Rattle.gcu_inputs.specs.Asking.{Asking}
use Rattle.gcu_words.specs.Form as forms
use Rattle.gcu_words.specs.Form.{Form, form}
use Rattle.gcu_requests.specs.Asked.{form_asked, migrate_asked}
use Rattle.gcu_requests.specs.Request.{Request, Work, abandon, change, delete_checkpoint, migrate_checkpoints, save_checkpoint}
use Rattle.gcu_requests.specs.WorkAsked.{change_asked}
use Rattle.command_answers.specs.Answers.{Says}
use Rattle.command_answers.specs.Changing.{IsBegun, IsChangeFor, IsLast, acknowledged, begun}
use Rattle.command_answers.specs.Migrating.{LeftMigrating}

-- ---- the output

-- a front of the whole output that the command has with some answer, once nothing else is left to be done
abbrev pub IsOutputFront : Asking Request → State → List ℕ → Type 0
IsOutputFront asking before part =
    (now : State) × (answer : Outcome) × (rest : List ℕ)
    × Says asking before now answer (part ++ rest) × (now.output ≡ before.output)

-- a front of what is printed before a work that is then done
abbrev pub IsWorkFront : Asking Request → State → List ℕ → Type 0
IsWorkFront asking before part =
    (w : Work) × (c : Change) × (text : List ℕ) × (rest : List ℕ) × asking.Gives (Ok (change w))
    × IsChangeFor w before c text × (text ≡ part ++ rest)

-- ---- a command that does no task

-- the files are changed as a request changes them that writes, and all else is as before
abbrev pub LeftWriting : Request → State → Left → Type 0
LeftWriting (delete_checkpoint name) before left = AreLeft (IsDeletedOrNot name) before left
LeftWriting (save_checkpoint name config) before left =
    AreLeft (IsSavedOrNot name config) before left
LeftWriting abandon before left = AreLeft IsClosedOrNot before left
LeftWriting other before left = ⊥

-- what was there, or what a request leaves that is right and writes
abbrev pub LeftBy : Asking Request → State → Left → Type 0
LeftBy asking before left =
    MayLeave before left ⊎ ((r : Request) × asking.Gives (Ok r) × LeftWriting r before left)

-- what a crash leaves: that, with a front of what the command prints
abbrev pub LeftOf : Asking Request → State → Left → Type 0
LeftOf asking before left =
    (part : List ℕ) × IsOutputFront asking before part × LeftBy asking (printed part before) left

-- ---- a command that does a task

-- while nothing is written yet: what was there, with a front of what is printed where nothing is done, or
-- before a work
abbrev pub LeftEarly : Asking Request → State → Left → Type 0
LeftEarly asking before left =
    (part : List ℕ) × (IsOutputFront asking before part ⊎ IsWorkFront asking before part)
    × MayLeave (printed part before) left

-- what a change leaves while its last line is printed, behind its acknowledgements; the line is that of the
-- change as it is answered
pub record LeftLast (c : Change) (answered before : State) (left : Left) : Type 0 where
  pub now : State
  pub answer : Outcome
  pub part : List ℕ
  pub rest : List ℕ
  pub line : IsLast c answered now answer (part ++ rest)
  pub output : left.output ≡ before.output ++ acks (acknowledged c answer) ++ part
  pub is : IsLeft c before (record left { output = before.output ++ acks (acknowledged c answer) })

-- what a change leaves from such a beginning: the last acknowledged configuration or the next one
abbrev pub LeftSince : Change → (answered began : State) → Left → Type 0
LeftSince c answered began left = IsLeft c began left ⊎ LeftLast c answered began left

-- what it leaves once all is printed that stands before it, wherever it begins
abbrev pub LeftChanged : Change → State → Left → Type 0
LeftChanged c told left =
    (answered : State) × (began : State) × IsBegun c told answered × IsBegun c told began
    × LeftSince c answered began left

-- what a command leaves that does a task: what was there, or what its change leaves with the checkpoints from
-- before
abbrev pub LeftOfChange : Asking Request → State → Left → Type 0
LeftOfChange asking before left =
    LeftEarly asking before left
    ⊎ ((w : Work) × (c : Change) × (text : List ℕ) × asking.Gives (Ok (change w))
    × IsChangeFor w before c text
    × LeftChanged c (begun text before) left × (points left.files ≡ points before.files))

-- ---- a migration of checkpoints

-- what was there, with a front of what is printed where nothing is written, or what the migration leaves
abbrev pub LeftOfMigration : Asking Request → State → Left → Type 0
LeftOfMigration asking before left =
    LeftOf asking before left
    ⊎ ((news : List NewFile) × asking.Gives (Ok (migrate_checkpoints news))
    × LeftMigrating news (with_pending settled before) left)

-- ---- of words

-- what a crash leaves of the command that words are
abbrev pub LeftByForm : Option Form → State → Left → Type 0
LeftByForm (Some (forms.change task budget)) before left =
    LeftOfChange (change_asked task budget before) before left
LeftByForm (Some forms.migrate_checkpoints) before left =
    LeftOfMigration (migrate_asked before) before left
LeftByForm other before left = LeftOf (form_asked other before) before left

-- What a crash leaves at a moment of a command, of a host that tells its state.
abbrev pub LeftMeanwhile : List (List ℕ) → Option State → Left → Type 0
LeftMeanwhile words None left = ⊤
LeftMeanwhile words (Some before) left = LeftByForm (form words) before left
