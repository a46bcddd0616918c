-- The names of checkpoints, and of their files.
use Rattle.std.specs.Prelude.{ℕ, ◌-◌, ◌++◌, List, codes, length, take, Bool, not, ◌&&◌, ◌||◌, ◌==◌, nat_eq, nat_le}
use Rattle.std.specs.Char.{is_ascii_alphanumeric}
use Rattle.std.specs.List.{ends_with, list_all}
use Rattle.host_core.specs.Characters.{hyphen, underscore}

-- an ASCII letter, a digit, `_` or `-`
abbrev pub is_name_character : ℕ → Bool
is_name_character c = is_ascii_alphanumeric c || c == underscore || c == hyphen

-- how many characters a name may have
abbrev pub longest_name : ℕ
longest_name = 64

-- 1 to 64 such characters
abbrev pub is_good_name : List ℕ → Bool
is_good_name name =
    not (length name == 0)
    && nat_le (length name) longest_name
    && list_all is_name_character name

-- how the name of a checkpoint's file ends
abbrev pub point_end : List ℕ
point_end = codes ".cp.json"

-- the file of a checkpoint of that name
abbrev pub point_file : List ℕ → List ℕ
point_file name = name ++ point_end

-- the name of the checkpoint in a file that is named like one
abbrev pub point_name : List ℕ → List ℕ
point_name file = take (length file - length point_end) file

-- whether a file is named like a checkpoint's
abbrev pub is_point_file : List ℕ → Bool
is_point_file file = ends_with nat_eq file point_end && is_good_name (point_name file)
