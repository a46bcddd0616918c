-- What saving and deleting a checkpoint do to the files, and so to the checkpoints.
use Rattle.std.specs.Prelude.{◌≡◌, ◌≢◌, ◌⊎◌, ℕ, List, Option, Some, None, ⊤}
use Rattle.std.specs.FinMap.{insert, remove}
use Rattle.host_core.specs.State.{Files, State, with_file}
use Rattle.conf_doc.specs.declared.configuration.Config.{Config}
use Rattle.conf_store.specs.Changes.{Changes}
use Rattle.conf_store.specs.Clearing.{IsDone, IsDoneOrNot}
use Rattle.conf_store.specs.Puts.{IsPutOrNot, put}
use Rattle.conf_store.specs.Stored.{stored}
use Rattle.checkpoints.specs.Formats.{point_text}
use Rattle.checkpoints.specs.Names.{point_file}
use Rattle.checkpoints.specs.Numbers.{next_number, number}
use Rattle.checkpoints.specs.Points.{Points, points}
use Rattle.checkpoints.specs.declared.errors.PointError.{PointError}
use Rattle.checkpoints.specs.declared.errors.PointError.TheVariants.{Disk}

-- The folder stands for the same afterwards.
abbrev pub KeepsStored : Files → Files → Type 0
KeepsStored before after = stored after ≡ stored before

-- ---- one checkpoint more

-- the checkpoints with one besides
abbrev pub with_point : List ℕ → Config → Points → Points
with_point name config before = insert before name (Some config)

-- the text of its file, which has the next number
abbrev pub next_text : Config → Files → List ℕ
next_text config before = point_text config (next_number before)

-- the numbers of all other checkpoints are as before
abbrev pub KeepsOtherNumbers : List ℕ → Files → Files → Type 0
KeepsOtherNumbers name before after =
    (other : List ℕ) → other ≢ name → number after other ≡ number before other

-- the file of the checkpoint was put, and there is that checkpoint besides, with the next number
pub record IsSaved (name : List ℕ) (config : Config) (before after : Files) : Type 0 where
  pub files : after ≡ put (point_file name) (next_text config before) before
  pub points : points after ≡ with_point name config (points before)
  pub number : number after name ≡ Some (next_number before)
  pub numbers : KeepsOtherNumbers name before after
  pub kept : KeepsStored before after

-- its file was put or not, and there are the checkpoints from before or that one besides
pub record IsSavedOrNot (name : List ℕ) (config : Config) (before after : Files) : Type 0 where
  pub files : IsPutOrNot (point_file name) (next_text config before) before after
  pub points :
      (points after ≡ points before) ⊎ (points after ≡ with_point name config (points before))
  pub kept : KeepsStored before after

-- ---- one checkpoint less

-- the checkpoints without one
abbrev pub without_point : List ℕ → Points → Points
without_point name before = remove before name

-- the files without a checkpoint's
abbrev pub without_file : List ℕ → Files → Files
without_file name = with_file (point_file name) None

-- the file of the checkpoint was removed, and so that checkpoint
pub record IsDeleted (name : List ℕ) (before after : Files) : Type 0 where
  pub files : IsDone (without_file name) before after
  pub points : points after ≡ without_point name (points before)
  pub kept : KeepsStored before after

-- its file was removed or not, and so that checkpoint
pub record IsDeletedOrNot (name : List ℕ) (before after : Files) : Type 0 where
  pub files : IsDoneOrNot (without_file name) before after
  pub points : (points after ≡ points before) ⊎ (points after ≡ without_point name (points before))
  pub kept : KeepsStored before after

-- ---- after an error

-- after a fault of the disk the files are changed like this, and after any other error nothing is
abbrev pub LeavesOf : (Files → Files → Type 0) → Option State → Option State → PointError → Type 0
LeavesOf P old new Disk = Changes P old new
LeavesOf P old new other = new ≡ old

-- it is so after another error than a fault of the disk
abbrev pub UnlessDisk : Type 0 → PointError → Type 0
UnlessDisk P Disk = ⊤
UnlessDisk P other = P
