-- Lines, and the words of the first line of a plan.
use Rattle.std.specs.Prelude.{◌≢◌, ℕ, List, [], ◌∷◌, ◌++◌, codes, decimal}
use Rattle.host_core.specs.Characters.{line_feed}

-- no line feed is among the bytes
abbrev pub HasNoFeed : List ℕ → Type 0
HasNoFeed [] = Unit {0}
HasNoFeed (b ∷ bs) = (b ≢ line_feed) × HasNoFeed bs

-- the word, and the number of moves
abbrev pub count_words : ℕ → List ℕ
count_words n = codes "plan " ++ decimal n
