-- Counts that a number of the machine holds.
use Rattle.std.specs.Prelude.{ℕ}

-- the greatest u64
abbrev pub largest_count : ℕ
largest_count = 18446744073709551615
