-- How many entries a call of the rule counts, and which verdicts it leaves.
use Rattle.std.specs.Prelude.{◌≡◌, ◌⊎◌, ◌≤◌, ◌+◌, ℕ, List, [], ◌∷◌, Option, Some, None, Bool, false, if◌then◌else◌, is_some, IsTrue, length}
use Rattle.std.specs.Bool.{OnFalse, OnTrue}
use Rattle.std.specs.List.{Contains}
use Rattle.conf_doc.specs.declared.configuration.Config.{Config}
use Rattle.conf_check.specs.Validity.{IsValidAt}
use Rattle.move_core.specs.declared.moves.Move.{Move}
use Rattle.yang_model.specs.ModelSets.{ModelSet}
use Rattle.ref_index.specs.Agreements.{entry_of}
use Rattle.recheck.specs.Turned.{IsTurned}
use Rattle.recheck.specs.SoleEntries.{IsSoleEntry}
use Rattle.recheck.specs.Entries.{IsLooked, entries_of, most_verdicts, raised}
use Rattle.recheck.specs.Losses.{IsLoserOfKept}
use Rattle.recheck.specs.Within.{IsLeft}
use Rattle.recheck.specs.declared.kept.Kept.{Kept}
use Rattle.recheck.specs.declared.verdicts.Verdict.{Verdict}

-- how many entries a configuration has, those of tables without a model too
abbrev pub number_of : Config → ℕ
number_of [] = 0
number_of (t ∷ config) = length t.1 + number_of config

-- of what is kept the verdicts are left but some that a difference of the configurations may turn
abbrev pub AreLeft : ModelSet → Option Kept → Config → List Verdict → Type 0
AreLeft models None next left = left ≡ []
AreLeft models (Some kept) next left =
    IsLeft (IsTurned models kept.index.config next) kept.verdicts.items left

-- each verdict that was kept still is, but those that a difference of the configurations may turn
abbrev pub AreStillKept : ModelSet → Option Kept → Config → List Verdict → Type 0
AreStillKept models None next new = Unit {0}
AreStillKept models (Some kept) next new =
    (v : Verdict) → Contains kept.verdicts.items v → ¬ IsTurned models kept.index.config next v
    → Contains new v

-- so many entries have no verdict that is left, and each entry was looked at; where none has a violation,
-- each has a verdict then, or there are as many as are kept, and the configuration is known to be valid
pub record AreChecked (models : ModelSet) (old : Option Kept) (next : Config) (kept : Kept)
    (count : ℕ) (valid : Bool) : Type 0 where
  pub left : List Verdict
  pub are : AreLeft models old next left
  pub counts : count + length left ≡ length (entries_of models next)
  pub looked :
      (table key : List ℕ) → Contains (entries_of models next) (table, key)
      → IsLooked models next kept.verdicts.items table key
  pub noted : IsTrue valid
      → (length kept.verdicts.items ≡ length (entries_of models next))
      ⊎ (most_verdicts ≤ length kept.verdicts.items)
  pub known : kept.valid ≡ valid

-- an entry is counted, where it is there; if it has a violation all is kept as it was, else the next
-- configuration is known to be valid
pub record IsOneCounted (before : Kept) (next : Config) (table key : List ℕ) (kept : Kept)
    (count : ℕ) (valid : Bool) : Type 0 where
  pub counts : count ≡ (if is_some (entry_of table key next) then 1 else 0)
  pub stays : OnFalse valid (kept ≡ before)
  pub known : OnTrue valid (IsTrue kept.valid)

-- so is the entry of a move, where what is kept is of a valid configuration, and its change turns no other
pub record IsOneChecked (models : ModelSet) (old : Option Kept) (next : Config) (mv : Move)
    (kept : Kept) (count : ℕ) (valid : Bool) : Type 0 where
  pub before : Kept
  pub was : old ≡ Some before
  pub table : List ℕ
  pub key : List ℕ
  pub whole : IsTrue before.valid
  pub entry : IsSoleEntry models before.index.config next mv table key
  pub counted : IsOneCounted before next table key kept count valid

-- the entry of the move was counted, or those without a verdict that is left, each once
abbrev pub AreCounted :
    ModelSet → Option Kept → Config → Move → Kept → ℕ → Bool → Type 0
AreCounted models old next mv kept count valid =
    IsOneChecked models old next mv kept count valid
    ⊎ AreChecked models old next kept count valid

-- an entry that lost what it wants by what is kept breaks a rule
pub record IsTold (models : ModelSet) (old : Option Kept) (next : Config) (mv : Move)
    : Type 0 where
  pub entry : Verdict
  pub loser : IsLoserOfKept models old next mv entry
  pub breaks : ¬ IsValidAt models next entry.table entry.key

-- that one told that the configuration is invalid, and alone is counted
pub record IsToldFirst (models : ModelSet) (old new : Option Kept) (next : Config) (mv : Move)
    (count : ℕ) (valid : Bool) : Type 0 where
  pub invalid : valid ≡ false
  pub kept : new ≡ old
  pub one : count ≡ 1
  pub told : IsTold models old next mv

-- they were counted
pub record IsRechecked (models : ModelSet) (old new : Option Kept) (next : Config) (mv : Move)
    (count : ℕ) (valid : Bool) : Type 0 where
  pub kept : Kept
  pub keeps : new ≡ Some kept
  pub checked : AreCounted models old next mv kept count valid

-- a growth was refused: nothing is kept, and all entries were counted, each once
pub record IsRefused (new : Option Kept) (next : Config) (count : ℕ) : Type 0 where
  pub none : new ≡ None
  pub all : count ≡ number_of next

-- how many entries a call counts
abbrev pub IsCount :
    ModelSet → Option Kept → Option Kept → Config → Move → Bool → ℕ → Type 0
IsCount models old new next mv valid count =
    IsToldFirst models old new next mv count valid
    ⊎ IsRechecked models old new next mv count valid
    ⊎ IsRefused new next count

-- a number is raised by as many as are counted, up to the greatest
abbrev pub IsRaised : ℕ → ℕ → (ℕ → Type 0) → Type 0
IsRaised old new Is = (count : ℕ) × Is count × (new ≡ raised old count)
