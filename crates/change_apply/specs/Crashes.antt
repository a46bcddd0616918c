-- What a crash at any moment of a change leaves.
use Rattle.std.specs.Prelude.{◌≡◌, ◌≢◌, ◌<◌, ◌≤◌, ◌⊎◌, ℕ, suc, List, [], ◌++◌, Option, Some, None, Ok, IfSome, slice_get}
use Rattle.std.specs.FinMap.{get}
use Rattle.host_core.specs.Crashes.{Left, LeavesOnly}
use Rattle.host_core.specs.State.{Files, State}
use Rattle.conf_store.specs.Files.{config_file, folded_file, intent_file, step_name, step_names}
use Rattle.conf_store.specs.Folds.{IsOther}
use Rattle.conf_store.specs.Stored.{config_in, stored}
use Rattle.move_core.specs.declared.moves.Move.{Move}
use Rattle.change_apply.specs.Acknowledgements.{HasAcknowledged}
use Rattle.change_apply.specs.Change.{Change, conf_at, names, restarted, restarts_at, step_text, steps}
use Rattle.change_apply.specs.Intents.{HoldsGoal, KeepsIntent}
use Rattle.change_apply.specs.declared.ready.Restart.{Restart}

-- the files that a change has nothing to do with are as before
abbrev pub KeepsOthers : Files → Files → Type 0
KeepsOthers before after =
    (name : List ℕ) → IsOther name → name ≢ intent_file → get after name ≡ get before name

-- there is nothing to fold: no step file, and no folded file
pub record HasNothingToFold (files : Files) : Type 0 where
  pub steps : step_names files ≡ []
  pub unfolded : get files folded_file ≡ None

-- where there was nothing to fold the one file has its bytes from before
abbrev pub KeepsBytes : Files → Files → Type 0
KeepsBytes before after = HasNothingToFold before → get after config_file ≡ get before config_file

-- the one file holds the configuration from before, and each of the first k steps has a file
pub record HasSmallSteps (change : Change) (k : ℕ) (files : Files) : Type 0 where
  pub bytes : List ℕ
  pub config : get files config_file ≡ Some bytes
  pub holds : config_in bytes ≡ Ok change.stored.config
  pub steps : (i : ℕ) (m : Move) → i < k → slice_get change.moves i ≡ Some m
      → get files (step_name (suc i)) ≡ Some (step_text m)
  pub unfolded : get files folded_file ≡ None

-- the step behind the first k is put, and none is folded: the files stand for the configuration after it, each
-- step up to it has a file, and `intent` holds the goal
pub record HasNext (change : Change) (k : ℕ) (files : Files) : Type 0 where
  pub within : k < steps change
  pub stands : stored files ≡ Ok (conf_at change (suc k))
  pub small : HasSmallSteps change (suc k) files
  pub intent : HoldsGoal change files

-- the files stand for the configuration after the first k steps, or the next step is put
abbrev pub StandAt : Change → ℕ → Files → Type 0
StandAt change k files = (stored files ≡ Ok (conf_at change k)) ⊎ HasNext change k files

-- what a crash may leave: the last acknowledged configuration or the next one
pub record IsLeft (change : Change) (before : State) (left : Left) : Type 0 where
  -- how many steps are acknowledged
  pub done : ℕ
  pub within : done ≤ steps change
  pub output : HasAcknowledged done before.output left.output
  -- an acknowledgement is there in part only where its step is put
  pub unfinished : output.part ≢ [] → HasNext change done left.files
  pub stands : StandAt change done left.files
  -- the services that were restarted after the next step, and those that weren't
  pub started : List Restart
  pub due : List Restart
  pub next : restarts_at change done ≡ started ++ due
  pub restarts : left.restarts ≡ before.restarts ++ restarted change done ++ names started
  -- none of them before the next step is put
  pub in_order : (started ≡ []) ⊎ HasNext change done left.files
  pub others : KeepsOthers before.files left.files
  pub intent : KeepsIntent change done before.files left.files
  pub small : 1 ≤ done → done < steps change → HasSmallSteps change done left.files
  -- the one file is written by the opening fold, where there is something to fold, and by the closing one
  pub kept : done < steps change → KeepsBytes before.files left.files

-- a crash at any moment since that stage leaves this, of each beginning of the change
abbrev pub LeavesAt :
    {H : Type 0} → (H → ℕ) → (H → ℕ → Left → Type 0) → (H → Option State) → Change
    → (Option State → Option State → Type 0) → H → H → Type 0
LeavesAt moment left_since told change P old new =
    (began : Option State) → P began (told old)
    → IfSome began (λ s. LeavesOnly moment left_since old new (IsLeft change s))
