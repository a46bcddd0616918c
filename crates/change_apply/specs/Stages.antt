-- The stages through which a change goes, each with what the host tells then.
use Rattle.std.specs.Prelude.{◌≡◌, ◌<◌, ◌≤◌, ℕ, zero, suc, List, [], ◌∷◌, ◌++◌, Option, Some, None, Ok, take}
use Rattle.std.specs.FinMap.{get}
use Rattle.host_core.specs.State.{Files, State}
use Rattle.conf_doc.specs.Texts.{file_text}
use Rattle.conf_store.specs.Changes.{IsSettled}
use Rattle.conf_store.specs.Files.{config_file, folded_file, last_step, step_name, step_names}
use Rattle.conf_store.specs.Folds.{StandsFor}
use Rattle.conf_store.specs.Stored.{stored}
use Rattle.change_apply.specs.Change.{Change, conf_at, goal, names, restarted, restarts_at, steps}
use Rattle.change_apply.specs.Crashes.{HasSmallSteps, KeepsBytes, KeepsOthers}
use Rattle.change_apply.specs.Ends.{worked}
use Rattle.change_apply.specs.Intents.{HoldsGoal}

-- the names of the first step files
abbrev pub first_steps : ℕ → List (List ℕ)
first_steps zero = []
first_steps (suc k) = first_steps k ++ step_name (suc k) ∷ []

-- the files after the first k steps are put, before they are folded
pub record AreSteps (change : Change) (k : ℕ) (before after : Files) : Type 0 where
  pub small : HasSmallSteps change k after
  pub missing : (n : ℕ) → k < n → n ≤ last_step → get after (step_name n) ≡ None
  pub names : step_names after ≡ first_steps k
  pub stands : stored after ≡ Ok (conf_at change k)
  pub intent : HoldsGoal change after
  pub others : KeepsOthers before after
  pub kept : KeepsBytes before after

-- so many steps are put, these services were restarted, and so many steps are acknowledged
abbrev pub AtStage : Change → ℕ → List (List ℕ) → ℕ → Option State → Option State → Type 0
AtStage change put services acked None now = now ≡ None
AtStage change put services acked (Some began) now =
    (files : Files) × (now ≡ Some (worked files acked services began))
    × AreSteps change put began.files files

-- the first k steps are done
abbrev pub AtStep : Change → ℕ → Option State → Option State → Type 0
AtStep change k = AtStage change k (restarted change k) k

-- the step behind them is put, and the first i of its services were restarted
abbrev pub AtPut : Change → ℕ → ℕ → Option State → Option State → Type 0
AtPut change k i =
    AtStage change (suc k) (restarted change k ++ names (take i (restarts_at change k))) k

-- nothing is done yet
abbrev pub AtBeginning : Change → Option State → Option State → Type 0
AtBeginning change None now = now ≡ None
AtBeginning change (Some began) now =
    (now ≡ Some began) × IsSettled began × StandsFor change.stored began.files

-- the intent is put, and the files stand for what was loaded, in the same bytes
pub record IsIntended (change : Change) (before after : Files) : Type 0 where
  pub stood : StandsFor change.stored before
  pub stands : StandsFor change.stored after
  pub config : get after config_file ≡ get before config_file
  pub intent : HoldsGoal change after
  pub others : KeepsOthers before after

-- nothing is done yet but that
abbrev pub AtIntent : Change → Option State → Option State → Type 0
AtIntent change None now = now ≡ None
AtIntent change (Some began) now =
    (files : Files) × (now ≡ Some (worked files 0 (restarted change 0) began))
    × IsIntended change began.files files

-- all steps are folded, and the intent is there
pub record AreAllFolded (change : Change) (before after : Files) : Type 0 where
  pub config_text : get after config_file ≡ Some (file_text (goal change))
  pub names : step_names after ≡ []
  pub folded : get after folded_file ≡ None
  pub stands : stored after ≡ Ok (goal change)
  pub intent : HoldsGoal change after
  pub others : KeepsOthers before after

-- all is done but that the intent is there
abbrev pub AtFolded : Change → Option State → Option State → Type 0
AtFolded change None now = now ≡ None
AtFolded change (Some began) now =
    (files : Files)
    × (now ≡ Some (worked files (steps change) (restarted change (steps change)) began))
    × AreAllFolded change began.files files

-- it is at that stage of some beginning
abbrev pub HasStage : (Option State → Option State → Type 0) → Option State → Type 0
HasStage P now = (began : Option State) × P began now

-- from the one stage to the other, of each beginning
abbrev pub Leads :
    (P Q : Option State → Option State → Type 0) → Option State → Option State → Type 0
Leads P Q old new = (began : Option State) → P began old → Q began new
