-- What a change leaves and has printed that does a work: finished, or stopped.
use Rattle.std.specs.Prelude.{◌≡◌, ◌≢◌, ◌⊎◌, ℕ, List, [], ◌++◌, codes, map, Some, None}
use Rattle.std.specs.FinMap.{get}
use Rattle.host_core.specs.State.{State, printed, settled, with_pending}
use Rattle.conf_doc.specs.Texts.{line_feed}
use Rattle.conf_store.specs.Files.{intent_file}
use Rattle.conf_store.specs.Folds.{StandsFor}
use Rattle.move_core.specs.Services.{services_of}
use Rattle.move_core.specs.declared.moves.Move.{Move}
use Rattle.change_apply.specs.Acknowledgements.{acks}
use Rattle.change_apply.specs.Change.{Change, restarts_of, steps}
use Rattle.change_apply.specs.Ends.{Finishes as IsFinished, IsStoppedBy, IsStoppedInRestarts}
use Rattle.change_apply.specs.Intents.{without_intent}
use Rattle.change_apply.specs.declared.errors.ApplyFault.{ApplyFault}
use Rattle.change_apply.specs.declared.errors.ApplyFault.TheVariants.{Disk, Print}
use Rattle.gcu_output.specs.Lines.{last_line, service_line}
use Rattle.gcu_output.specs.declared.outcomes.Outcome.{Outcome}
use Rattle.gcu_output.specs.declared.outcomes.Outcome.TheVariants.{Done, DiskFault, ServiceFault}
use Rattle.gcu_requests.specs.Request.{Work, ctx_of, start_of}
use Rattle.command_answers.specs.Works.{IsWorkOf}

-- the change that does a work on what the folder stands for, with the services of each move, and what is
-- printed before it
pub record IsChangeFor (w : Work) (before : State) (c : Change) (text : List ℕ) : Type 0 where
  pub stands : StandsFor c.stored before.files
  pub start : c.stored.config ≡ start_of w
  pub work : IsWorkOf w c.moves text
  pub restarts :
      c.restarts
      ≡ map (restarts_of (ctx_of w).settings) (map (services_of (ctx_of w).settings) c.moves)

-- nothing is pending any more, and what is printed before a work is
abbrev pub begun : List ℕ → State → State
begun text before = printed text (with_pending settled before)

-- the same with `intent` gone, and nothing pending
abbrev pub closed : State → State
closed s = record s { files = without_intent s.files; pending = settled }

-- where it begins: there, or with `intent` gone where no step is left of a change that was stopped
abbrev pub IsBegun : Change → State → State → Type 0
IsBegun c told began = (began ≡ told) ⊎ ((steps c ≡ 0) × (began ≡ closed told))

-- ---- finished and stopped

-- all its steps are done and acknowledged, and `intent` is gone
abbrev pub IsChanged : Work → State → State → Type 0
IsChanged w before now =
    (c : Change) × (text : List ℕ) × IsChangeFor w before c text
    × (began : State) × IsBegun c (begun text before) began
    × IsFinished c (Some began) (Some now) × (get now.files intent_file ≡ None)

-- it is stopped by this fault
abbrev pub IsHalted : Work → ApplyFault → State → State → Type 0
IsHalted w fault before now =
    (c : Change) × (text : List ℕ) × IsChangeFor w before c text
    × (began : State) × IsBegun c (begun text before) began × IsStoppedBy c fault began now

-- a front of what is printed before it is printed, and nothing is begun
abbrev pub IsCutBefore : Work → State → State → List ℕ → Type 0
IsCutBefore w before now output =
    (c : Change) × (text : List ℕ) × (rest : List ℕ) × IsChangeFor w before c text
    × (text ≡ output ++ rest) × (now ≡ with_pending settled before)

-- a print fault cut that short, or the acknowledgement behind so many
abbrev pub IsCutShort : Work → ℕ → State → State → List ℕ → Type 0
IsCutShort w step before now output =
    ((step ≡ 0) × IsCutBefore w before now output)
    ⊎ (IsHalted w (Print step) before now × (output ≡ []))

-- nothing was printed yet, or what is printed before a work, and so many acknowledgements
abbrev pub AreAcknowledged : ℕ → State → State → Type 0
AreAcknowledged step before now =
    ((step ≡ 0) × (now.output ≡ before.output))
    ⊎ ((w : Work) × (ms : List Move) × (text : List ℕ) × IsWorkOf w ms text
    × (now.output ≡ before.output ++ text ++ acks step))

-- ---- the last line

-- one line that begins with `refused`
abbrev pub IsRefusalLine : List ℕ → Type 0
IsRefusalLine text =
    (why : List ℕ) × (text ≡ codes "refused " ++ why ++ line_feed)
    × ((front back : List ℕ) → why ≢ front ++ line_feed ++ back)

-- the last line of an answer: `done`, or that of a refusal; which line each answer has, `last_line` says
abbrev pub IsLastLine : List ℕ → Type 0
IsLastLine text = (text ≡ codes "done" ++ line_feed) ⊎ IsRefusalLine text

-- that text is the last line of the answer, in the state that the change then left
abbrev pub IsLast : Change → State → State → Outcome → List ℕ → Type 0
IsLast c began now Done text =
    IsFinished c (Some began) (Some now) × (text ≡ last_line Done)
    × (get now.files intent_file ≡ None)
IsLast c began now (DiskFault step) text =
    IsStoppedBy c (Disk step) began now × (text ≡ last_line (DiskFault step))
IsLast c began now (ServiceFault step service) text =
    (h : IsStoppedInRestarts c step service began now)
    × (text ≡ service_line step service h.refused.name)
IsLast c began now other text = ⊥

-- how many steps are acknowledged before that answer
abbrev pub acknowledged : Change → Outcome → ℕ
acknowledged c (DiskFault step) = step
acknowledged c (ServiceFault step service) = step
acknowledged c other = steps c
