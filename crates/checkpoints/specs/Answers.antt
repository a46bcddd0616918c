-- What the calls for checkpoints answer. A fault of the disk or want of memory may come in place of
-- each answer but BadName.
use Rattle.std.specs.Prelude.{◌≡◌, ◌⊎◌, ℕ, List, map, true, false, Option, Some, None, Result, Ok, Err, IsSome, ⊤}
use Rattle.std.specs.FinMap.{get, keys}
use Rattle.host_core.specs.State.{Files}
use Rattle.conf_doc.specs.declared.configuration.Config.{Config}
use Rattle.checkpoints.specs.Names.{is_good_name}
use Rattle.checkpoints.specs.Numbers.{is_full, numbered_points}
use Rattle.checkpoints.specs.Points.{points}
use Rattle.checkpoints.specs.declared.errors.PointError.{PointError}
use Rattle.checkpoints.specs.declared.errors.PointError.TheVariants.{BadName, Exists, Absent, Full, NotConfig, Disk, Memory}
use Rattle.checkpoints.specs.declared.numbering.Numbered.{Numbered}

-- the name isn't good, or it is and there is another answer
abbrev pub Named : {A : Type 0} → List ℕ → Result A PointError → Type 0
Named name (Err BadName) = is_good_name name ≡ false
Named name other = is_good_name name ≡ true

-- ---- saving

-- an error of saving
abbrev pub IsOfSaving : PointError → Type 0
IsOfSaving Absent = ⊥
IsOfSaving NotConfig = ⊥
IsOfSaving other = ⊤

-- it is saved where there is none of that name, and then where there is a number for it
abbrev pub Saves : {A : Type 0} → List ℕ → Files → Result A PointError → Type 0
Saves name files (Ok done) = (get (points files) name ≡ None) × (is_full files ≡ false)
Saves name files (Err Exists) = IsSome (get (points files) name)
Saves name files (Err Full) = (get (points files) name ≡ None) × (is_full files ≡ true)
Saves name files (Err other) = ⊤

-- it isn't saved: there is one of that name, or no number is left
abbrev pub IsInTheWay : List ℕ → Files → Type 0
IsInTheWay name files = IsSome (get (points files) name) ⊎ (is_full files ≡ true)

-- ---- loading

-- an error of loading
abbrev pub IsOfLoading : PointError → Type 0
IsOfLoading Exists = ⊥
IsOfLoading Full = ⊥
IsOfLoading other = ⊤

-- the configuration is the one that it holds
abbrev pub Loads : List ℕ → Files → Result Config PointError → Type 0
Loads name files (Ok config) = get (points files) name ≡ Some (Some config)
Loads name files (Err Absent) = get (points files) name ≡ None
Loads name files (Err NotConfig) = get (points files) name ≡ Some None
Loads name files (Err other) = ⊤

-- ---- listing

-- an error of listing
abbrev pub IsOfListing : PointError → Type 0
IsOfListing Disk = ⊤
IsOfListing Memory = ⊤
IsOfListing other = ⊥

-- all names are listed, in order
abbrev pub Lists : Files → Result (List (List ℕ)) PointError → Type 0
Lists files (Ok names) = names ≡ keys (points files)
Lists files (Err other) = ⊤

-- a checkpoint by its name, with its number
abbrev pub numbered_view : Numbered → List ℕ × Option ℕ
numbered_view n = (n.name, n.number)

-- all names are listed, in order, each with its number
abbrev pub ListsNumbers : Files → Result (List Numbered) PointError → Type 0
ListsNumbers files (Ok all) = map numbered_view all ≡ numbered_points files
ListsNumbers files (Err other) = ⊤

-- ---- deleting

-- an error of deleting
abbrev pub IsOfDeleting : PointError → Type 0
IsOfDeleting Exists = ⊥
IsOfDeleting Full = ⊥
IsOfDeleting NotConfig = ⊥
IsOfDeleting other = ⊤

-- it is deleted where it is there, whatever it holds
abbrev pub Deletes : List ℕ → Files → Result (Unit {0}) PointError → Type 0
Deletes name files (Ok done) = IsSome (get (points files) name)
Deletes name files (Err Absent) = get (points files) name ≡ None
Deletes name files (Err other) = ⊤
