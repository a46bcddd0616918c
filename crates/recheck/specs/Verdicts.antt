-- What a verdict on an entry says.
use Rattle.std.specs.Prelude.{◌≡◌, ℕ, List, is_some, IsTrue, Bool, true, ◌&&◌, not}
use Rattle.std.specs.List.{All, Contains}
use Rattle.std.specs.Str.{bytes_eq}
use Rattle.conf_doc.specs.declared.configuration.Config.{Config}
use Rattle.conf_check.specs.Validity.{IsValidAt}
use Rattle.yang_model.specs.ModelSets.{ModelSet}
use Rattle.ref_index.specs.Agreements.{entry_of}
use Rattle.ref_index.specs.Referrers.{Indexed}
use Rattle.recheck.specs.declared.verdicts.Verdict.{Verdict}

-- the entry is there, and it has no violation
pub record IsSound (models : ModelSet) (config : Config) (v : Verdict) : Type 0 where
  pub there : IsTrue (is_some (entry_of v.table v.key config))
  pub valid : IsValidAt models config v.table v.key

-- all of them are true
abbrev pub AreSound : ModelSet → Config → List Verdict → Type 0
AreSound models config verdicts = All (IsSound models config) verdicts

-- all of them are true in the configuration of an index, by its models
abbrev pub AreKept : Indexed → List Verdict → Type 0
AreKept index verdicts = AreSound index.models index.config verdicts

-- the verdict is on that entry
abbrev pub is_on : List ℕ → List ℕ → Verdict → Bool
is_on table key v = bytes_eq v.key key && bytes_eq v.table table

-- it is on another one
abbrev pub is_elsewhere : List ℕ → List ℕ → Verdict → Bool
is_elsewhere table key v = not (is_on table key v)

-- some verdict is on that entry
abbrev pub HasVerdict : List ℕ → List ℕ → List Verdict → Type 0
HasVerdict table key verdicts =
    (v : Verdict) × Contains verdicts v × (is_on table key v ≡ true)
