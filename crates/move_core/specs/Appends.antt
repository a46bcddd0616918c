-- What is put at the end of a list.
use Rattle.std.specs.Prelude.{◌≡◌, ◌≢◌, List, ◌++◌, All, Contains}
use Rattle.std.specs.List.{AllPairs}

-- The new list is the old one followed by all that is as P says, each once.
pub record Appends {A : Type 0} (P : A → Type 0) (old new : List A) : Type 0 where
  pub more : List A
  pub follows : new ≡ old ++ more
  pub each : All P more
  pub all : (a : A) → P a → Contains more a
  pub once : AllPairs (λ a b. a ≢ b) more

-- It is the old one followed by some that are as P says, none twice.
pub record AppendsSome {A : Type 0} (P : A → Type 0) (old new : List A) : Type 0 where
  pub more : List A
  pub follows : new ≡ old ++ more
  pub each : All P more
  pub once : AllPairs (λ a b. a ≢ b) more
