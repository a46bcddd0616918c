-- The list of the files of models: UTF-8 text, one path a line.
use Rattle.std.specs.Prelude.{ℕ, suc, ◌==◌, List, [], ◌∷◌, ◌++◌, map, length, Result, Ok, Err, slice_get, if◌then◌else◌}
use Rattle.std.specs.Option.{option_map_or}
use Rattle.std.specs.Str.{is_utf8}
use Rattle.std.specs.Str.Lines.{lines}
use Rattle.yang_text.specs.declared.errors.ModelWhy.{ModelWhy}
use Rattle.yang_text.specs.declared.errors.ModelWhy.TheVariants.{NotUtf8, TooMany}
use Rattle.yang_text.specs.declared.faults.Fault.{Fault}

-- how many files a list may name
abbrev pub most_files : ℕ
most_files = 256

-- the line of a file, and its path
abbrev pub Named : Type 0
Named = ℕ × List ℕ

-- the path on a line of that number, where it isn't empty
abbrev pub named_on : ℕ → List ℕ → List Named
named_on n line = if length line == 0 then [] else (n, line) ∷ []

-- those on some lines, counted from a number on
abbrev pub named_from : ℕ → List (List ℕ) → List Named
named_from n [] = []
named_from n (l ∷ ls) = named_on n l ++ named_from (suc n) ls

-- the paths in a text, whose lines are counted from 1; a carriage return before a line's end is part
-- of that end
abbrev pub named_in : List ℕ → List Named
named_in text = named_from 1 (lines text)

-- a fault on a line
abbrev pub fault_on : ModelWhy → ℕ → Fault
fault_on why line = record { line = line; why = why }

-- all paths, or TooMany on the line of the first that is too much
abbrev pub paths_within : List Named → Result (List (List ℕ)) Fault
paths_within named =
    option_map_or (λ n. Err (fault_on TooMany n.0)) (slice_get named most_files)
    (Ok (map (λ n. n.1) named))

-- the paths in a list, or its fault
abbrev pub paths_of : List ℕ → Result (List (List ℕ)) Fault
paths_of bytes =
    if is_utf8 bytes then paths_within (named_in bytes)
    else Err (fault_on NotUtf8 1)
