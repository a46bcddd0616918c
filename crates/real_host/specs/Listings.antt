-- The names that a listing of a folder hands out, item by item.
use Rattle.std.specs.Prelude.{◌≡◌, ◌≢◌, ℕ, List, filter_map, Option, Some, None, Result, Ok, Err, IfErr, IsErrAnd}
use Rattle.std.specs.IoError.{error_kind}
use Rattle.std.specs.Fs.{dir_entry_name}
use Rattle.std.specs.Iterator.{YieldsThen}
use Rattle.std.specs.declared.fs.DirEntry.{DirEntry}
use Rattle.std.specs.declared.io.Error.{Error}
use Rattle.std.specs.declared.io.ErrorKind.TheVariants.{InvalidFilename, OutOfMemory}

module _ {R A F D : Type 0} where
  -- the name of an item, where it is an entry
  abbrev pub item_name : Result (DirEntry R A F D) Error → Option (List ℕ)
  item_name (Ok entry) = Some (dir_entry_name entry)
  item_name (Err e) = None

  -- the names of the entries
  abbrev pub item_names : List (Result (DirEntry R A F D) Error) → List (List ℕ)
  item_names items = filter_map item_name items

  -- an entry, or one whose name is no UTF-8
  abbrev pub IsEntry : Result (DirEntry R A F D) Error → Type 0
  IsEntry item = IfErr item (λ e. error_kind e ≡ InvalidFilename)

  -- neither, nor want of memory
  abbrev pub IsFault : Result (DirEntry R A F D) Error → Type 0
  IsFault item = IsErrAnd item
      (λ e. (error_kind e ≢ InvalidFilename) × (error_kind e ≢ OutOfMemory))

  -- the calls gave some items and then a fault
  abbrev pub GivesFault :
      {S : Type 0} → (S → Option (Result (DirEntry R A F D) Error) → S → Type 0) → S → Type 0
  GivesFault {S} steps start =
      (before : List (Result (DirEntry R A F D) Error)) × (item : Result (DirEntry R A F D) Error)
      × (rest : S) × YieldsThen steps start before (Some item) rest × IsFault item
