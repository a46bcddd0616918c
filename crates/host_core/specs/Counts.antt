-- How a host counts faults, and what its calls may do to the counts.
use Rattle.std.specs.Prelude.{◌≡◌, ◌⊎◌, ℕ, ◌-◌, ◌^◌, ◌<◌, ◌≤◌}

-- the faults so far, each count a number of 64 bits
pub record Counts : Type 0 where
  pub input : ℕ
  pub disk : ℕ
  pub print : ℕ
  pub service : ℕ

-- where a count stays once it is there
abbrev pub last_count : ℕ
last_count = 2 ^ 64 - 1

-- the count is greater afterwards, or at its last value
abbrev pub Rose : ℕ → ℕ → Type 0
Rose old new = (old < new) ⊎ (new ≡ last_count)

-- one count may rise, and the others stay
abbrev pub InputMayRise : Counts → Counts → Type 0
InputMayRise old new = (n : ℕ) × (old.input ≤ n) × (new ≡ record old { input = n })

-- the same for the count of disk faults
abbrev pub DiskMayRise : Counts → Counts → Type 0
DiskMayRise old new = (n : ℕ) × (old.disk ≤ n) × (new ≡ record old { disk = n })

-- the same for the count of print faults
abbrev pub PrintMayRise : Counts → Counts → Type 0
PrintMayRise old new = (n : ℕ) × (old.print ≤ n) × (new ≡ record old { print = n })

-- the same for the count of service faults
abbrev pub ServiceMayRise : Counts → Counts → Type 0
ServiceMayRise old new = (n : ℕ) × (old.service ≤ n) × (new ≡ record old { service = n })

-- no count is smaller afterwards
pub record NoneFell (old new : Counts) : Type 0 where
  pub input : old.input ≤ new.input
  pub disk : old.disk ≤ new.disk
  pub print : old.print ≤ new.print
  pub service : old.service ≤ new.service

-- no count rose
pub record NoneRose (old new : Counts) : Type 0 where
  pub input : ¬ (Rose old.input new.input)
  pub disk : ¬ (Rose old.disk new.disk)
  pub print : ¬ (Rose old.print new.print)
  pub service : ¬ (Rose old.service new.service)
