-- The limits of patterns.
use Rattle.std.specs.Prelude.{ℕ}

-- the size of the largest pattern
abbrev pub largest_size : ℕ
largest_size = 1024

-- how deep groups nest at most
abbrev pub deepest_group : ℕ
deepest_group = 32

-- the greatest number of a quantifier
abbrev pub greatest_count : ℕ
greatest_count = 255

-- the least number of three digits
abbrev pub three_digits : ℕ
three_digits = 100

-- the bits of a machine word
abbrev pub word_bits : ℕ
word_bits = 64

-- the words of a set of positions
abbrev pub set_words : ℕ
set_words = 16
