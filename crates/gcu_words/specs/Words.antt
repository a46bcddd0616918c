-- Words of a command.
use Rattle.std.specs.Prelude.{ℕ, List, codes, Bool, not, nat_eq}
use Rattle.std.specs.Cmp.Lexicographic.{pointwise}
use Rattle.std.specs.List.{starts_with}

-- options begin with two dashes, and any other word is positional
abbrev pub is_positional : List ℕ → Bool
is_positional word = not (starts_with nat_eq word (codes "--"))

-- the word is that name
abbrev pub is_word : List ℕ → List ℕ → Bool
is_word word name = pointwise nat_eq word name
