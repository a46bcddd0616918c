-- The files that the entries of a map from names to bytes stand for.
use Rattle.std.specs.Prelude.{ℕ, List, map, string_bytes, Vec, String}
use Rattle.std.specs.declared.alloc.Global.{Global}
use Rattle.std.specs.FinMap.{from_entries}
use Rattle.host_core.specs.State.{Files}

-- a name and its bytes
abbrev pub named : String Global × Vec ℕ Global → List ℕ × List ℕ
named e = (string_bytes e.0, e.1.items)

-- the files with these names and bytes
abbrev pub files_in : List (String Global × Vec ℕ Global) → Files
files_in entries = from_entries (map named entries)
