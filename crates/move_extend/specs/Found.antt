-- What is found, one after another.
use Rattle.std.specs.Prelude.{◌≢◌, ◌⊎◌, List}
use Rattle.std.specs.List.{All, AllPairs, Contains}

-- the new list has what the old one has and what is as P says, and none twice where the old has not
pub record Finds {A : Type 0} (P : A → Type 0) (old new : List A) : Type 0 where
  pub each : (a : A) → Contains new a → Contains old a ⊎ P a
  pub kept : (a : A) → Contains old a → Contains new a
  pub all : (a : A) → P a → Contains new a
  pub once : AllPairs (λ a b. a ≢ b) old → AllPairs (λ a b. a ≢ b) new

-- one of the items gives it
pub record GivenByOne {A B : Type 0} (P : A → B → Type 0) (xs : List A) (b : B) : Type 0 where
  pub item : A
  pub there : Contains xs item
  pub gives : P item b

-- none of the items is as P says
abbrev pub HasNone : {A : Type 0} → (A → Type 0) → List A → Type 0
HasNone P xs = All (λ a. ¬ P a) xs
