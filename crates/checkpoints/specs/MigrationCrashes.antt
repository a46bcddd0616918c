-- What a crash at any moment of a migration leaves.
use Rattle.std.specs.Prelude.{◌≡◌, ◌⊎◌, ◌≤◌, ℕ, suc, List, [], ◌++◌, length, take, slice_get, Some}
use Rattle.host_core.specs.Crashes.{Left}
use Rattle.host_core.specs.State.{Files, State}
use Rattle.checkpoints.specs.Migrations.{IsRewrittenOrNot, KeepsPoints, NewFile}
use Rattle.checkpoints.specs.MigrationEnds.{ArePut}
use Rattle.checkpoints.specs.MigrationLines.{lines_text, migrated_line}

-- the files of the first k are put anew, and perhaps that of the next one
abbrev pub HasNextOrNot : List NewFile → ℕ → Files → Files → Type 0
HasNextOrNot news k before after =
    (first : Files) × ArePut (take k news) before first
    × ((after ≡ first)
    ⊎ ((next : NewFile) × (slice_get news k ≡ Some next) × IsRewrittenOrNot next first after))

-- the files of the first k and of the next one are put anew, and a front of its line is printed
abbrev pub HasNextTold : List NewFile → ℕ → List ℕ → Files → Files → Type 0
HasNextTold news k part before after =
    (next : NewFile) × (rest : List ℕ) × (slice_get news k ≡ Some next)
    × (migrated_line next.0 ≡ part ++ rest) × ArePut (take (suc k) news) before after

-- What a crash may leave: the lines of the first ones, each of which is put anew, and all checkpoints and
-- numbers as they were.
pub record IsLeft (news : List NewFile) (before : State) (left : Left) : Type 0 where
  -- of how many the lines are there
  pub done : ℕ
  pub within : done ≤ length news
  pub part : List ℕ
  pub output : left.output ≡ before.output ++ lines_text (take done news) ++ part
  pub restarts : left.restarts ≡ before.restarts
  pub files : ((part ≡ []) × HasNextOrNot news done before.files left.files)
      ⊎ HasNextTold news done part before.files left.files
  pub same : KeepsPoints before.files left.files
