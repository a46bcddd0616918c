-- The sequence numbers of the checkpoints of a folder.
use Rattle.std.specs.Prelude.{◌==◌, ℕ, suc, List, [], ◌∷◌, map, max, Bool, Option, Some, None, option_and_then}
use Rattle.std.specs.FinMap.{get, keys}
use Rattle.host_core.specs.State.{Files}
use Rattle.checkpoints.specs.Formats.{greatest_number, number_held}
use Rattle.checkpoints.specs.Names.{point_file}
use Rattle.checkpoints.specs.Points.{points}

-- the number of the checkpoint of a name, or None where its file is of neither format
abbrev pub number : Files → List ℕ → Option ℕ
number files name = option_and_then number_held (get files (point_file name))

-- a name with the number of its checkpoint
abbrev pub with_its_number : Files → List ℕ → List ℕ × Option ℕ
with_its_number files name = (name, number files name)

-- the names of all checkpoints in order, each with its number
abbrev pub numbered_points : Files → List (List ℕ × Option ℕ)
numbered_points files = map (with_its_number files) (keys (points files))

-- the greatest number, or 0 where there is none
abbrev pub greatest : List (List ℕ × Option ℕ) → ℕ
greatest [] = 0
greatest ((name, None) ∷ ps) = greatest ps
greatest ((name, Some n) ∷ ps) = max n (greatest ps)

-- the number that the next checkpoint gets
abbrev pub next_number : Files → ℕ
next_number files = suc (greatest (numbered_points files))

-- whether the greatest number is taken, so that there is no next one
abbrev pub is_full : Files → Bool
is_full files = greatest (numbered_points files) == greatest_number
