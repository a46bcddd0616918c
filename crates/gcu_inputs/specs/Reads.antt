-- What a call leaves as it was that only reads, and which counts of faults may have risen meanwhile.
use Rattle.std.specs.Prelude.{◌≡◌, ℕ, ◌≤◌, Option}
use Rattle.host_core.specs.Counts.{Counts, InputMayRise}
use Rattle.host_core.specs.Crashes.{Left}
use Rattle.host_core.specs.Frames as frames
use Rattle.host_core.specs.State.{State}
use Rattle.conf_store.specs.Reads as folder

-- Inputs and files may have failed to be read. Nothing is printed and no service restarted: the counts of such
-- faults are as before.
pub record ReadsMayRise (old new : Counts) : Type 0 where
  pub input : old.input ≤ new.input
  pub disk : old.disk ≤ new.disk
  pub print : new.print ≡ old.print
  pub service : new.service ≡ old.service

-- nothing is changed, and only an input may have failed
abbrev pub ReadsInputs : {H : Type 0} → (H → Option State) → (H → Counts) → (H → ℕ)
    → (H → ℕ → Left → Type 0) → (H → H → Type 0) → H → H → Type 0
ReadsInputs told counts moment left_since goes_on old new =
    frames.OnlyReads told counts moment left_since goes_on InputMayRise old new

-- nothing is changed, and only the disk may have failed
abbrev pub ReadsFiles : {H : Type 0} → (H → Option State) → (H → Counts) → (H → ℕ)
    → (H → ℕ → Left → Type 0) → (H → H → Type 0) → H → H → Type 0
ReadsFiles told counts moment left_since goes_on old new =
    folder.OnlyReads told counts moment left_since goes_on old new

-- nothing is changed, and only an input or the disk may have failed
abbrev pub OnlyReads : {H : Type 0} → (H → Option State) → (H → Counts) → (H → ℕ)
    → (H → ℕ → Left → Type 0) → (H → H → Type 0) → H → H → Type 0
OnlyReads told counts moment left_since goes_on old new =
    frames.OnlyReads told counts moment left_since goes_on ReadsMayRise old new
