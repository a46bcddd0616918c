-- How a migration ends: finished, or stopped by a fault.
use Rattle.std.specs.Prelude.{◌≡◌, ◌≢◌, ◌≤◌, ℕ, suc, List, [], ◌∷◌, ◌++◌, All, take, slice_get, Option, Some, None}
use Rattle.host_core.specs.Counts.{Counts, Rose}
use Rattle.host_core.specs.State.{Files, State, printed, settled}
use Rattle.conf_store.specs.Changes.{Leads}
use Rattle.conf_store.specs.Puts.{put}
use Rattle.checkpoints.specs.Migrations.{IsRewrittenOrNot, KeepsPoints, NewFile, old_point}
use Rattle.checkpoints.specs.Names.{point_file}
use Rattle.checkpoints.specs.MigrationLines.{lines_text, migrated_line}
use Rattle.checkpoints.specs.declared.errors.MigrateFault.{MigrateFault}
use Rattle.checkpoints.specs.declared.errors.MigrateFault.TheVariants.{Disk, Print}

-- the files with each of these put, one after the other
abbrev pub put_all : List NewFile → Files → Files
put_all [] files = files
put_all (new ∷ news) files = put_all news (put (point_file new.0) new.1 files)

-- the files of these were put anew: none of them is of the old format, of all other names the same are, and the
-- checkpoints and their numbers are as before
pub record ArePut (news : List NewFile) (before after : Files) : Type 0 where
  pub files : after ≡ put_all news before
  pub formats : All (λ new. old_point after new.0 ≡ None) news
  pub others : (name : List ℕ) → All (λ new. new.0 ≢ name) news
      → old_point after name ≡ old_point before name
  pub same : KeepsPoints before after

-- with these files nothing is pending, and the lines of these checkpoints are printed
abbrev pub worked : Files → List NewFile → State → State
worked files told s =
    record s { files = files; pending = settled; output = s.output ++ lines_text told }

-- ---- finished

-- all are put anew, and each is told
abbrev pub Finishes : List NewFile → Option State → Option State → Type 0
Finishes news None new = new ≡ None
Finishes news (Some s) new =
    (files : Files) × (new ≡ Some (worked files news s)) × ArePut news s.files files

-- ---- stopped

-- stopped at the file of the next one behind the first k
pub record IsStoppedInPut (news : List NewFile) (k : ℕ) (before after : State) : Type 0 where
  pub next : NewFile
  pub is : slice_get news k ≡ Some next
  pub first : Files
  pub put : ArePut (take k news) before.files first
  pub leads : Leads (IsRewrittenOrNot next) (worked first (take k news) before) after

-- stopped at the line of the next one, which is put; a front of it is printed
pub record IsStoppedInPrint (news : List NewFile) (k : ℕ) (before after : State) : Type 0 where
  pub next : NewFile
  pub is : slice_get news k ≡ Some next
  pub files : Files
  pub put : ArePut (take (suc k) news) before.files files
  pub part : List ℕ
  pub rest : List ℕ
  pub line : migrated_line next.0 ≡ part ++ rest
  pub printed_is : after ≡ printed part (worked files (take k news) before)

-- stopped by this fault
abbrev pub IsStoppedBy : List NewFile → MigrateFault → State → State → Type 0
IsStoppedBy news (Disk k) = IsStoppedInPut news k
IsStoppedBy news (Print k) = IsStoppedInPrint news k

-- the same, of a host that may not tell its state
abbrev pub Stops : List NewFile → MigrateFault → Option State → Option State → Type 0
Stops news fault None new = new ≡ None
Stops news fault (Some s) new = (t : State) × (new ≡ Some t) × IsStoppedBy news fault s t

-- ---- faults

-- the counts of disk and print may rise, and none falls
pub record MayRise (old new : Counts) : Type 0 where
  pub input : new.input ≡ old.input
  pub disk : old.disk ≤ new.disk
  pub print : old.print ≤ new.print
  pub service : new.service ≡ old.service

-- the count of the fault rose
abbrev pub HasCause : Counts → Counts → MigrateFault → Type 0
HasCause old new (Disk step) = Rose old.disk new.disk
HasCause old new (Print step) = Rose old.print new.print
