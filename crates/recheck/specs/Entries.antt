-- The entries that are checked for violations, and the verdicts on them in their order.
use Rattle.std.specs.Prelude.{◌⊎◌, ◌≤◌, ◌+◌, ◌++◌, ℕ, List, [], ◌∷◌, Bool, if◌then◌else◌, is_some, IsTrue, length, map, max, min}
use Rattle.conf_doc.specs.declared.configuration.Config.{Config}
use Rattle.conf_doc.specs.declared.configuration.Table.{Table}
use Rattle.conf_check.specs.Validity.{IsValidAt}
use Rattle.yang_model.specs.ModelSets.{ModelSet, table_named}
use Rattle.ref_index.specs.Referrers.{Indexed}
use Rattle.recheck.specs.Verdicts.{HasVerdict, is_on}
use Rattle.recheck.specs.Within.{is_within}
use Rattle.recheck.specs.declared.verdicts.Verdict.{Verdict}

-- a table's name with each of its keys
abbrev pub entries_in : List ℕ × Table → List (List ℕ × List ℕ)
entries_in table = map (λ e. (table.0, e.0)) table.1

-- the same, where the table has a model
abbrev pub entries_with_model : ModelSet → List ℕ × Table → List (List ℕ × List ℕ)
entries_with_model models table =
    if is_some (table_named table.0 models) then entries_in table else []

-- the entries of the tables with a model
abbrev pub entries_of : ModelSet → Config → List (List ℕ × List ℕ)
entries_of models [] = []
entries_of models (t ∷ c) = entries_with_model models t ++ entries_of models c

-- the verdict is on that entry
abbrev pub is_of : List ℕ × List ℕ → Verdict → Bool
is_of entry v = is_on entry.0 entry.1 v

-- each verdict is on one of some entries, in their order
abbrev pub AreWithin : List Verdict → List (List ℕ × List ℕ) → Type 0
AreWithin verdicts entries = IsTrue (is_within is_of verdicts entries)

-- on those of the configuration of an index
abbrev pub AreOrdered : Indexed → List Verdict → Type 0
AreOrdered index verdicts = AreWithin verdicts (entries_of index.models index.config)

-- how many verdicts are kept at most
abbrev pub most_verdicts : ℕ
most_verdicts = 4096

-- an entry was looked at: it has a verdict or breaks a rule, or there are as many as are kept
abbrev pub IsLooked : ModelSet → Config → List Verdict → List ℕ → List ℕ → Type 0
IsLooked models config verdicts table key =
    HasVerdict table key verdicts
    ⊎ (¬ IsValidAt models config table key)
    ⊎ (most_verdicts ≤ length verdicts)

-- the greatest number that is counted
abbrev pub greatest : ℕ
greatest = 18446744073709551615

-- a number that is raised, and never beyond the greatest
abbrev pub raised : ℕ → ℕ → ℕ
raised old count = max old (min (old + count) greatest)
