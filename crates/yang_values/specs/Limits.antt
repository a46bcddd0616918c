-- How wide the numbers of lengths and ranges are.
use Rattle.std.specs.Prelude.{ℕ, ℤ, pos, negsuc}

-- the greatest number of 128 bits
abbrev pub greatest_size : ℕ
greatest_size = 170141183460469231731687303715884105727

-- the same as an integer
abbrev pub greatest : ℤ
greatest = pos greatest_size

-- the least number of 128 bits
abbrev pub least : ℤ
least = negsuc greatest_size
