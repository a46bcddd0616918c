-- The names of files in the working folder.
use Rattle.std.specs.Prelude.{◌≡◌, ◌≢◌, ◌⊎◌, ◌<◌, ◌++◌, ℕ, Bool, List, [], codes, decimal, IsFalse, nat_eq, ◌==◌}
use Rattle.std.specs.List.{list_any, ends_with}
use Rattle.host_core.specs.Characters.{slash}

-- dot and dot-dot, which name the folder and the one above
abbrev pub AreDots : List ℕ → Type 0
AreDots name = (name ≡ codes ".") ⊎ (name ≡ codes "..")

-- a filename (POSIX, 3.170) but these
abbrev pub IsPlainName : List ℕ → Type 0
IsPlainName name =
    (name ≢ []) × (¬ AreDots name) × IsFalse (list_any (λ b. b == slash) name)

-- the file of that name may have been written and not synced
abbrev pub is_scratch_name : List ℕ → Bool
is_scratch_name name = ends_with nat_eq name (codes "tmp.new")

-- the scratch file of an ASIC
abbrev pub asic_scratch : ℕ → List ℕ
asic_scratch number = codes "asic" ++ decimal number ++ codes ".tmp.new"

-- how many ASICs a folder may have
abbrev pub most_asics : ℕ
most_asics = 256

-- a command writes the file of that name: that of the folder or of one of its ASICs
abbrev pub IsOwnScratch : List ℕ → Type 0
IsOwnScratch name =
    (name ≡ codes "tmp.new") ⊎ ((number : ℕ) × (number < most_asics) × (name ≡ asic_scratch number))
