-- Calls that only read, and what they find in the folder.
use Rattle.std.specs.Prelude.{ℕ, Option, Some, None, Result, IfSome}
use Rattle.host_core.specs.Answers.{Gives}
use Rattle.host_core.specs.Counts.{Counts, DiskMayRise}
use Rattle.host_core.specs.Crashes.{Left}
use Rattle.host_core.specs.Frames as frames
use Rattle.host_core.specs.State.{Files, State}
use Rattle.conf_store.specs.declared.errors.LoadError.{LoadError}
use Rattle.conf_store.specs.declared.errors.LoadError.TheVariants.{Bad, Disk, Memory}
use Rattle.conf_store.specs.declared.errors.StoredWhy.{StoredWhy}

-- nothing is changed, and only the disk may have failed
abbrev pub OnlyReads : {H : Type 0} → (H → Option State) → (H → Counts) → (H → ℕ)
    → (H → ℕ → Left → Type 0) → (H → H → Type 0) → H → H → Type 0
OnlyReads told counts moment left_since goes_on old new =
    frames.OnlyReads told counts moment left_since goes_on DiskMayRise old new

-- why the folder stands for nothing, or none for an error with another cause
abbrev pub load_fault : LoadError → Option StoredWhy
load_fault (Bad why) = Some why
load_fault Disk = None
load_fault Memory = None

-- what is found in the files of a host that tells them, unless the disk failed or memory was wanting
abbrev pub FoundIn : {X Y : Type 0} → Option State → (X → Y) → (Files → Result Y StoredWhy)
    → Result X LoadError → Type 0
FoundIn told view answer result = IfSome told (λ s. Gives view load_fault result (answer s.files))
