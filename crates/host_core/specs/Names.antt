-- Names of files and of services, and texts: their order, and how long a host lets them be.
use Rattle.std.specs.Prelude.{ℕ, List}
use Rattle.std.specs.Ordering.{nat_cmp}
use Rattle.std.specs.declared.cmp.Ordering.{Ordering}
use Rattle.std.specs.Cmp.Lexicographic.{slice_cmp}

-- the order by bytes
abbrev pub name_cmp : List ℕ → List ℕ → Ordering
name_cmp = slice_cmp nat_cmp

-- how many bytes a name may have in a host in memory, and in the working folder
abbrev pub longest_file_name : ℕ
longest_file_name = 96

-- how many bytes the longest plain name of a file has that a command uses
abbrev pub longest_plain_name : ℕ
longest_plain_name = 72

-- the same with the scope that a command for one of several folders puts in front
abbrev pub longest_scoped_name : ℕ
longest_scoped_name = 80
