-- What is known of a configuration whose entries are checked one after another.
use Rattle.std.specs.Prelude.{◌≡◌, ◌⊎◌, ◌<◌, ◌≤◌, ◌+◌, ◌++◌, ℕ, List, Bool, Some, IsTrue, slice_get, length, take, drop, true}
use Rattle.std.specs.List.{Contains, insert}
use Rattle.conf_doc.specs.declared.configuration.Config.{Config}
use Rattle.conf_check.specs.Validity.{Breach, IsBreach}
use Rattle.yang_model.specs.ModelSets.{ModelSet}
use Rattle.recheck.specs.Entries.{AreWithin, IsLooked, most_verdicts, raised}
use Rattle.recheck.specs.Verdicts.{is_on}
use Rattle.recheck.specs.declared.verdicts.Verdict.{Verdict}

-- no entry of a table before a position has a violation
abbrev pub AreKeysValid : ModelSet → Config → ℕ → ℕ → Type 0
AreKeysValid models config t n =
    (b : Breach) → b.table ≡ t → b.key < n → ¬ IsBreach models config b

-- no entry of a table has a violation
abbrev pub IsTableValid : ModelSet → Config → ℕ → Type 0
IsTableValid models config t = (b : Breach) → b.table ≡ t → ¬ IsBreach models config b

-- no entry of the tables before a position has a violation
abbrev pub AreTablesValid : ModelSet → Config → ℕ → Type 0
AreTablesValid models config n = (b : Breach) → b.table < n → ¬ IsBreach models config b

-- nothing is added, or a verdict on that entry
abbrev pub IsNoted : List ℕ → List ℕ → List Verdict → List Verdict → Type 0
IsNoted table key old new =
    (new ≡ old)
    ⊎ ((i : ℕ) × (new ≡ insert old i (record { table = table; key = key })))

-- the verdict at a position is on that entry
abbrev pub IsNext : List Verdict → ℕ → List ℕ → List ℕ → Type 0
IsNext verdicts at table key =
    (v : Verdict) × (slice_get verdicts at ≡ Some v) × (is_on table key v ≡ true)

-- a verdict on that entry is added before a position, which is behind it then, or there are as many as are
-- kept, and nothing is added
abbrev pub IsNotedAt :
    List ℕ → List ℕ → List Verdict → ℕ → List Verdict → ℕ → Type 0
IsNotedAt table key old behind new behind' =
    ((new ≡ insert old behind (record { table = table; key = key })) × (behind' ≡ behind + 1))
    ⊎ ((new ≡ old) × (behind' ≡ behind) × (most_verdicts ≤ length old))

-- what some entries leave that are gone through: of the verdicts on them, of which some are behind, so many
-- are behind then; as many entries were counted as had none; where all are valid each has one
pub record AreWalked (entries : List (List ℕ × List ℕ)) (old : List Verdict) (behind : ℕ)
    (new : List Verdict) (behind' : ℕ) (checked checked' : ℕ) (valid : Bool) : Type 0 where
  pub ahead : (rest : List (List ℕ × List ℕ)) → AreWithin (drop behind old) (entries ++ rest)
      → AreWithin (drop behind' new) rest
  pub past : (seen : List (List ℕ × List ℕ)) → AreWithin (take behind old) seen
      → AreWithin (take behind' new) (seen ++ entries)
  pub count : ℕ
  pub counts : count + length (drop behind old) ≡ length entries + length (drop behind' new)
  pub raises : checked' ≡ raised checked count
  pub longer : length old ≤ length new
  pub noted : IsTrue valid
      → (length (take behind' new) ≡ length (take behind old) + length entries)
      ⊎ (most_verdicts ≤ length new)

-- verdicts are only added; each of some entries has one then or breaks a rule, or there are as many as are kept
pub record AreLooked (models : ModelSet) (config : Config) (entries : List (List ℕ × List ℕ))
    (old new : List Verdict) : Type 0 where
  pub stay : (v : Verdict) → Contains old v → Contains new v
  pub longer : length old ≤ length new
  pub each :
      (table key : List ℕ) → Contains entries (table, key) → IsLooked models config new table key
