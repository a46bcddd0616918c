-- The lines of `restarts.log`.
use Rattle.std.specs.Prelude.{ℕ, Bool, false, not, List, [], ◌∷◌, ◌++◌, codes, ◌==◌, if◌then◌else◌, Option, Some, None}
use Rattle.std.specs.List.{last_or}
use Rattle.host_core.specs.Characters.{line_feed}

-- the line that requests the restart of a service
abbrev pub restart_request : List ℕ → List ℕ
restart_request service = codes "restart " ++ service ++ line_feed ∷ []

-- the last byte of a file is there and ends no line
abbrev pub is_open_end : Option ℕ → Bool
is_open_end None = false
is_open_end (Some byte) = not (byte == line_feed)

-- the lines of a file, of which an incomplete one at its end (POSIX, 3.195) is ended
abbrev pub ended_lines : List ℕ → List ℕ
ended_lines bytes = if is_open_end (last_or None bytes) then bytes ++ line_feed ∷ [] else bytes

-- one line more behind the lines of a file
abbrev pub with_line : List ℕ → List ℕ → List ℕ
with_line line bytes = ended_lines bytes ++ line
