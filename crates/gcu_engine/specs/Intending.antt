-- The file `intent` while a command does a task.
use Rattle.std.specs.Prelude.{◌≡◌, ◌≢◌, ◌<◌, ◌≤◌, ◌⊎◌, ℕ, List, ◌++◌, length, Some, None, Ok}
use Rattle.std.specs.FinMap.{get}
use Rattle.host_core.specs.Crashes.{Left}
use Rattle.host_core.specs.State.{Files, State}
use Rattle.conf_doc.specs.Texts.{file_text}
use Rattle.conf_doc.specs.declared.configuration.Config.{Config}
use Rattle.conf_store.specs.Files.{intent_file}
use Rattle.conf_store.specs.Stored.{stored}
use Rattle.move_core.specs.Plans.{conf}
use Rattle.change_apply.specs.Acknowledgements.{acks}
use Rattle.gcu_words.specs.Form.{change, form}
use Rattle.gcu_words.specs.Tasks.{Task}
use Rattle.gcu_engine.specs.Headline.{IsUnacknowledged, IsNoneWhole, IsRightWork}

-- it holds the file text of a configuration
abbrev pub HoldsText : Config → Files → Type 0
HoldsText goal files = get files intent_file ≡ Some (file_text goal)

-- it is as at the beginning
abbrev pub IsKept : State → Left → Type 0
IsKept s left = get left.files intent_file ≡ get s.files intent_file

-- it is gone, and the folder stands for the goal
abbrev pub IsOver : Config → Files → Type 0
IsOver goal files = (get files intent_file ≡ None) × (stored files ≡ Ok goal)

-- all is printed before some moves, and so many of them are acknowledged; the last configuration is the goal
pub record IsIntended (task : Task) (s : State) (left : Left) : Type 0 where
  pub right : IsRightWork task s
  pub goal : Config
  pub last : conf right.start right.moves (length right.moves) ≡ goal
  pub done : ℕ
  pub part : List ℕ
  pub cut : IsNoneWhole done part
  pub output : left.output ≡ s.output ++ right.text ++ acks done ++ part
  -- it holds the goal; or, with none acknowledged, it is as at the beginning; or, with all, it is gone and the
  -- folder stands for the goal
  pub is : ((done ≡ 0) × IsKept s left) ⊎ HoldsText goal left.files
      ⊎ ((done ≡ length right.moves) × IsOver goal left.files)
  -- it holds the goal from the first acknowledgement on and before the last
  pub under_way : 1 ≤ done → done < length right.moves → HoldsText goal left.files
  -- and wherever the folder stands for another configuration than the first, unless it is the goal and all are
  -- acknowledged
  pub between : (config : Config) → stored left.files ≡ Ok config → config ≢ right.start
      → (done < length right.moves) ⊎ (config ≢ goal) → HoldsText goal left.files

-- nothing is done, and it is as at the beginning with all other files; or so far as some moves are done
abbrev pub HasIntent : Task → State → Left → Type 0
HasIntent task s left = IsUnacknowledged task s left ⊎ IsIntended task s left

-- at each moment of a command that does a task a crash leaves it so
abbrev pub KeepsIntent : List (List ℕ) → State → (Left → Type 0) → Type 0
KeepsIntent words s IsLeftSince =
    (task : Task) (budget : ℕ) → form words ≡ Some (change task budget)
    → (left : Left) → IsLeftSince left → HasIntent task s left
