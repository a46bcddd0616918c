-- Which verdicts are dropped, and which may be left.
use Rattle.std.specs.Prelude.{◌≡◌, ◌⊎◌, ◌<◌, ◌≤◌, ℕ, suc, Bool, false, List, Some, is_some, IsTrue, length, map, slice_get}
use Rattle.std.specs.List.{All, Contains, list_any}
use Rattle.std.specs.Str.{bytes_eq}
use Rattle.conf_doc.specs.Pairs.{find}
use Rattle.conf_doc.specs.declared.configuration.Config.{Config}
use Rattle.key_split.specs.Key.{key_parts}
use Rattle.conf_check.specs.Rows.{IsEntryAt}
use Rattle.conf_check.specs.Wants.{Want}
use Rattle.yang_model.specs.ModelSets.{ModelSet, shapes_of}
use Rattle.yang_model.specs.declared.shapes.MustRule.{MustRule}
use Rattle.yang_model.specs.declared.shapes.Shape.{Shape}
use Rattle.ref_index.specs.Agreements.{entry_of}
use Rattle.ref_index.specs.Referrers.{HasWant, want_for}
use Rattle.ref_index.specs.declared.places.Place.{Place}
use Rattle.recheck.specs.declared.verdicts.Verdict.{Verdict}
use Rattle.recheck.specs.Turned.{most_parts, IsOn, IsTouched, Reads, IsSame}

-- no change of that entry may turn one of the verdicts
abbrev pub AreUntouched : ModelSet → Config → List ℕ → List ℕ → List Verdict → Type 0
AreUntouched models config table key verdicts =
    All (λ v. ¬ IsTouched models config table key v) verdicts

-- the must reads that table
abbrev pub is_reader : List ℕ → MustRule → Bool
is_reader table must = list_any (λ name. bytes_eq name table) must.reads

-- no shape of a table of that name has a must that does, among those before a position
abbrev pub AreNoReaders : ModelSet → List ℕ → List ℕ → ℕ → Type 0
AreNoReaders models name table n =
    (place : ℕ) (shape : Shape) → place < n → slice_get (shapes_of name models) place ≡ Some shape
    → list_any (is_reader table) shape.musts ≡ false

-- no table of the verdicts before a position has one
abbrev pub HaveNoReaders : ModelSet → List ℕ → List Verdict → ℕ → Type 0
HaveNoReaders models table verdicts i =
    (k : ℕ) (v : Verdict) → k < i → slice_get verdicts k ≡ Some v
    → (n : ℕ) → AreNoReaders models v.table table n

-- the verdict at a position is on an entry of the same table as the one before it
pub record IsOfLast (verdicts : List Verdict) (i : ℕ) : Type 0 where
  pub k : ℕ
  pub before : Verdict
  pub here : Verdict
  pub follows : suc k ≡ i
  pub at_before : slice_get verdicts k ≡ Some before
  pub at : slice_get verdicts i ≡ Some here
  pub same : before.table ≡ here.table

-- no must of the verdicts' entries reads that table
abbrev pub AreUnread : ModelSet → List ℕ → List Verdict → Type 0
AreUnread models table verdicts = All (λ v. ¬ Reads models table v) verdicts

-- each verdict of the second list is in the first, which is as long at least
pub record AreAmong (old new : List Verdict) : Type 0 where
  pub each : All (Contains old) new
  pub shorter : length new ≤ length old

-- no verdict is on the entry of a place
abbrev pub AreElsewhere : Place → List Verdict → Type 0
AreElsewhere place verdicts = All (λ v. ¬ IsOn place.table place.key v) verdicts

-- the entry is the same in both, or no verdict that its change may turn is left
abbrev pub IsHandled :
    ModelSet → Config → Config → List Verdict → List ℕ → List ℕ → Type 0
IsHandled models config next verdicts table key =
    IsSame config next table key ⊎ AreUntouched models config table key verdicts

-- so are the entries of a table before a position
abbrev pub AreKeysHandled :
    ModelSet → Config → Config → List Verdict → ℕ → ℕ → Type 0
AreKeysHandled models config next verdicts t n =
    (table key : List ℕ) (k : ℕ) → IsEntryAt config table key t k → k < n
    → IsHandled models config next verdicts table key

-- so are all entries of the tables before a position
abbrev pub AreHandled : ModelSet → Config → Config → List Verdict → ℕ → Type 0
AreHandled models config next verdicts n =
    (table key : List ℕ) (t k : ℕ) → IsEntryAt config table key t k → t < n
    → IsHandled models config next verdicts table key

-- both have the same table of that name or none, or no verdict on an entry that reads it is left
abbrev pub IsTableHandled : ModelSet → Config → Config → List Verdict → List ℕ → Type 0
IsTableHandled models config next verdicts name =
    (find name config ≡ find name next) ⊎ AreUnread models name verdicts

-- so is the name at a position of one of them
abbrev pub IsTableHandledAt :
    ModelSet → Config → Config → List Verdict → Config → ℕ → Type 0
IsTableHandledAt models config next verdicts of t =
    (name : List ℕ) → slice_get (map (λ p. p.0) of) t ≡ Some name
    → IsTableHandled models config next verdicts name

-- so are the names before a position
abbrev pub AreTablesHandled :
    ModelSet → Config → Config → List Verdict → Config → ℕ → Type 0
AreTablesHandled models config next verdicts of n =
    (t : ℕ) → t < n → IsTableHandledAt models config next verdicts of t

-- ---- which verdicts are dropped at most

-- the verdict is on the entry of one of some places
abbrev pub IsOnOne : List Place → Verdict → Type 0
IsOnOne places v = (p : Place) × Contains places p × IsOn p.table p.key v

-- the verdict is on that entry, which isn't there
abbrev pub IsOnGone : Config → List ℕ → List ℕ → Verdict → Type 0
IsOnGone next table key v =
    IsOn table key v × (¬ IsTrue (is_some (entry_of table key next)))

-- a text of the verdict's entry has that want
abbrev pub HasText : ModelSet → Config → Want → Verdict → Type 0
HasText models config want v =
    (p : Place) × HasWant models config want p × IsOn p.table p.key v

-- one has that of a text as a part of a key, or the part has a number that no want has
abbrev pub MayWant :
    ModelSet → Config → List ℕ → ℕ → ℕ → List ℕ → Verdict → Type 0
MayWant models config table shape part text v =
    HasText models config (want_for table shape part text) v ⊎ (most_parts ≤ part)

-- the same of what a key has as that part
abbrev pub MayWantPart :
    ModelSet → Config → List ℕ → ℕ → List ℕ → ℕ → Verdict → Type 0
MayWantPart models config table shape key part v =
    (text : List ℕ) × (slice_get (key_parts key) part ≡ Some text)
    × MayWant models config table shape part text v

-- ---- whether a change turns no other entry

-- no shape of the tables before a position has a must that reads that table
abbrev pub AreUnreadBefore : ModelSet → Config → List ℕ → ℕ → Type 0
AreUnreadBefore models config table n =
    (t : ℕ) (name : List ℕ) → t < n → slice_get (map (λ p. p.0) config) t ≡ Some name
    → (m : ℕ) → AreNoReaders models name table m

-- nothing wants a text as a part of a key of a shape of a table
abbrev pub IsTextUnwanted : ModelSet → Config → List ℕ → ℕ → ℕ → List ℕ → Type 0
IsTextUnwanted models config table shape part text =
    (p : Place) → ¬ HasWant models config (want_for table shape part text) p

-- nor what a key has as that part
abbrev pub IsPartUnwanted : ModelSet → Config → List ℕ → ℕ → List ℕ → ℕ → Type 0
IsPartUnwanted models config table shape key part =
    (text : List ℕ) → slice_get (key_parts key) part ≡ Some text
    → IsTextUnwanted models config table shape part text
