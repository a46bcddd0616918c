-- The file `intent`, which holds the goal of a change while the change is under way.
use Rattle.std.specs.Prelude.{◌≡◌, ◌≢◌, ◌<◌, ◌≤◌, ◌⊎◌, ℕ, [], Some, None, Ok}
use Rattle.std.specs.FinMap.{get}
use Rattle.host_core.specs.State.{Files, with_file}
use Rattle.conf_doc.specs.Texts.{file_text}
use Rattle.conf_doc.specs.declared.configuration.Config.{Config}
use Rattle.conf_store.specs.Files.{folded_file, intent_file, step_names}
use Rattle.conf_store.specs.Puts.{IsSame}
use Rattle.conf_store.specs.Stored.{stored}
use Rattle.change_apply.specs.Change.{Change, conf_at, goal, steps}

-- ---- taken away

-- the files without it
abbrev pub without_intent : Files → Files
without_intent files = with_file intent_file None files

-- it is gone, and all else is as before
abbrev pub IsClosed : Files → Files → Type 0
IsClosed before after = after ≡ without_intent before

-- all is as before, or it is gone
abbrev pub IsClosedOrNot : Files → Files → Type 0
IsClosedOrNot before after = (after ≡ before) ⊎ IsClosed before after

-- ---- during a change

-- it holds the file text of the goal
abbrev pub HoldsGoal : Change → Files → Type 0
HoldsGoal change files = get files intent_file ≡ Some (file_text (goal change))

-- it is gone, and the files stand for the goal with all steps folded
pub record IsOver (change : Change) (files : Files) : Type 0 where
  pub gone : get files intent_file ≡ None
  pub stands : stored files ≡ Ok (goal change)
  pub steps_gone : step_names files ≡ []
  pub unfolded : get files folded_file ≡ None

-- with the first k steps acknowledged: with none nothing may be written yet but the scratch file, so that the
-- intent is as at the beginning; or it holds the goal; with all it may be gone, and all steps are folded
pub record KeepsIntent (change : Change) (k : ℕ) (before after : Files) : Type 0 where
  pub is :
      ((k ≡ 0) × IsSame before after) ⊎ HoldsGoal change after
      ⊎ ((k ≡ steps change) × IsOver change after)
  -- it holds the goal from the first acknowledgement on and before the last
  pub under_way : 1 ≤ k → k < steps change → HoldsGoal change after
  -- and wherever the files stand for another configuration than the first, unless it is the goal and all steps
  -- are acknowledged
  pub between : (config : Config) → stored after ≡ Ok config → config ≢ conf_at change 0
      → (k < steps change) ⊎ (config ≢ goal change) → HoldsGoal change after
