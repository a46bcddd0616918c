-- The names of a place in a configuration.
use Rattle.std.specs.Prelude.{ℕ, ◌<◌, ◌≤◌, List, [], ◌∷◌, length}

-- a field stands below a key, and a key below a table
abbrev pub longest_path : ℕ
longest_path = 3

-- none is empty
abbrev pub HaveLetters : List (List ℕ) → Type 0
HaveLetters [] = Unit {0}
HaveLetters (n ∷ ns) = (0 < length n) × HaveLetters ns

-- one to three names, none empty
pub record IsPath (names : List (List ℕ)) : Type 0 where
  pub some : 0 < length names
  pub few : length names ≤ longest_path
  pub named : HaveLetters names
