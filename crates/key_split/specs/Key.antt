-- The key of an entry and its parts.
use Rattle.std.specs.Prelude.{◌≡◌, ◌≢◌, ◌==◌, ◌<◌, ℕ, List, length, All}
use Rattle.std.specs.List.{join_with_byte, slice_split}
use Rattle.host_core.specs.Characters.{bar}

-- no bar stands in a part
abbrev pub HasNoBar : List ℕ → Type 0
HasNoBar part = All (λ c. c ≢ bar) part

-- at least one text without a bar, which joined by bars are the key
pub record ArePartsOf (key : List ℕ) (parts : List (List ℕ)) : Type 0 where
  pub some : 0 < length parts
  pub plain : All HasNoBar parts
  pub whole : join_with_byte bar parts ≡ key

-- the parts of a key
abbrev pub key_parts : List ℕ → List (List ℕ)
key_parts key = slice_split (λ c. c == bar) key
