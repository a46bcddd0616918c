-- What a command asks of its host before it does anything: which calls are made, and which answers are
-- right. It is said by relations, as what models and configurations say is no function of the code.
use Rattle.std.specs.Prelude.{◌≡◌, ◌⊎◌, List, [], ◌∷◌, Result, Ok, Err}
use Rattle.gcu_output.specs.declared.outcomes.Outcome.{Outcome}

-- what a call of the host reads
pub data Source : Type 0 where
  -- an input of the command
  an_input : Source
  -- the disk: a file of the folder, the names of the files, or nothing where it settles
  a_file : Source
  -- nothing: it settles what is pending
  a_settling : Source

-- what the calls that are made read, and what comes of all of them: a value, or the first refusal
pub record Asking (X : Type 0) : Type 1 where
  pub Reads : Source → Type 0
  pub Gives : Result X Outcome → Type 0

-- one call, and what it gives
abbrev pub asks : {X : Type 0} → Source → Result X Outcome → Asking X
asks source answer = record { Reads = λ s. source ≡ s; Gives = λ r. answer ≡ r }

-- what is pending is settled by a call of the disk, which a writing command makes before it reads a file
abbrev pub settles_first : Asking (Unit {0})
settles_first =
    record { Reads = λ s. (a_settling ≡ s) ⊎ (a_file ≡ s); Gives = λ r. Ok tt ≡ r }

-- what follows with no call, as a relation tells it
abbrev pub follows_by : {X : Type 0} → (Result X Outcome → Type 0) → Asking X
follows_by Tells = record { Reads = λ s. ⊥; Gives = Tells }

-- what follows with no call
abbrev pub follows : {X : Type 0} → Result X Outcome → Asking X
follows answer = follows_by (λ r. answer ≡ r)

-- the first one is refused, and so are both
abbrev pub IsRefused : {X Y : Type 0} → Asking X → Result Y Outcome → Type 0
IsRefused first (Ok y) = ⊥
IsRefused first (Err e) = first.Gives (Err e)

-- what is asked next reads it
abbrev pub ReadsNext : {X Y : Type 0} → Asking X → (X → Asking Y) → Source → Type 0
ReadsNext {X = X} first next s = (x : X) × first.Gives (Ok x) × (next x).Reads s

-- what is asked next gives it
abbrev pub GivesNext : {X Y : Type 0} → Asking X → (X → Asking Y) → Result Y Outcome → Type 0
GivesNext {X = X} first next r = (x : X) × first.Gives (Ok x) × (next x).Gives r

infixl 10 ◌>>>◌
-- the first one, and then what is asked next unless it is a refusal
abbrev pub ◌>>>◌ : {X Y : Type 0} → Asking X → (X → Asking Y) → Asking Y
first >>> next =
    record {
      Reads = λ s. first.Reads s ⊎ ReadsNext first next s;
      Gives = λ r. IsRefused first r ⊎ GivesNext first next r;
    }

-- the same question of each item, one after the other
abbrev pub of_each : {X Y : Type 0} → (X → Asking Y) → List X → Asking (List Y)
of_each ask [] = follows (Ok [])
of_each ask (x ∷ xs) =
    ask x >>> λ y.
    of_each ask xs >>> λ ys.
    follows (Ok (y ∷ ys))
