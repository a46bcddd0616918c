-- What private calls read and list.
use Rattle.std.specs.Prelude.{◌≡◌, ℕ, List, [], ◌∷◌, if◌then◌else◌, max, true, false, Option, Some, None, Result, Ok, Err, ⊤}
use Rattle.std.specs.BTreeSet.{insert_key}
use Rattle.host_core.specs.Names.{name_cmp}
use Rattle.host_core.specs.State.{Files}
use Rattle.conf_doc.specs.declared.configuration.Config.{Config}
use Rattle.checkpoints.specs.Changes.{next_text}
use Rattle.checkpoints.specs.Formats.{content}
use Rattle.checkpoints.specs.Names.{is_point_file, point_name}
use Rattle.checkpoints.specs.Numbers.{is_full, next_number}
use Rattle.checkpoints.specs.declared.errors.PointError.{PointError}
use Rattle.checkpoints.specs.declared.errors.PointError.TheVariants.{BadName, Full, NotConfig, Disk, Memory}

-- an error of reading a file
abbrev pub IsOfReading : PointError → Type 0
IsOfReading BadName = Unit {0}
IsOfReading Disk = Unit {0}
IsOfReading Memory = Unit {0}
IsOfReading other = ⊥

-- what was found, or that nothing was, unless memory was wanting
abbrev pub Finds : {A : Type 0} → Option A → Result A PointError → Type 0
Finds found (Ok a) = found ≡ Some a
Finds found (Err NotConfig) = found ≡ None
Finds found (Err Memory) = Unit {0}
Finds found (Err other) = ⊥

-- the names of the checkpoints in files of these names, in order
abbrev pub names_in : List (List ℕ) → List (List ℕ)
names_in [] = []
names_in (file ∷ files) =
    if is_point_file file then insert_key name_cmp (names_in files) (point_name file)
    else names_in files

-- an error of finding the next number
abbrev pub IsOfNumbering : PointError → Type 0
IsOfNumbering Full = ⊤
IsOfNumbering Disk = ⊤
IsOfNumbering Memory = ⊤
IsOfNumbering other = ⊥

-- the greater of a number and of another one that is there
abbrev pub greater : ℕ → Option ℕ → ℕ
greater m None = m
greater m (Some n) = max m n

-- there is a next number, or there is none
abbrev pub TellsFull : {A : Type 0} → Files → Result A PointError → Type 0
TellsFull files (Ok a) = is_full files ≡ false
TellsFull files (Err Full) = is_full files ≡ true
TellsFull files (Err other) = ⊤

-- the text of the checkpoint that is saved next, which holds that with its number
pub record IsNextText (config : Config) (files : Files) (bytes : List ℕ) : Type 0 where
  pub text : bytes ≡ next_text config files
  pub holds : content bytes ≡ Some (record { config = config; number = next_number files })
