-- Which verdicts a difference between two configurations may turn.
use Rattle.std.specs.Prelude.{◌≡◌, ◌≢◌, ◌⊎◌, ◌<◌, ℕ, List, Some, is_some, IsTrue, length, slice_get}
use Rattle.std.specs.List.{Contains}
use Rattle.conf_doc.specs.Pairs.{find}
use Rattle.conf_doc.specs.declared.configuration.Config.{Config}
use Rattle.key_split.specs.Key.{key_parts}
use Rattle.conf_check.specs.Rows.{IsEntryAt, IsShapeOf}
use Rattle.conf_check.specs.Wants.{Want, IsWantAt}
use Rattle.conf_check.specs.declared.want_iter.WantPlace.{WantPlace}
use Rattle.yang_model.specs.Belongs.{Belongs}
use Rattle.yang_model.specs.ModelSets.{ModelSet, shapes_of}
use Rattle.yang_model.specs.declared.shapes.MustRule.{MustRule}
use Rattle.yang_model.specs.declared.shapes.Shape.{Shape}
use Rattle.ref_index.specs.Agreements.{entry_of}
use Rattle.recheck.specs.declared.verdicts.Verdict.{Verdict}

-- how many parts of a key a want can name
abbrev pub most_parts : ℕ
most_parts = 4294967296

-- the entry has the wanted text as the wanted part of its key
pub record Meets (models : ModelSet) (table key : List ℕ) (w : Want) : Type 0 where
  pub in_table : w.target.table ≡ table
  pub belongs : Belongs (shapes_of table models) key (Some w.target.shape)
  pub part : slice_get (key_parts key) w.target.part ≡ Some w.text

-- the verdict's entry has a want that the entry of that key of the table meets
pub record Wants (models : ModelSet) (config : Config) (table key : List ℕ)
    (v : Verdict) : Type 0 where
  pub place : WantPlace
  pub want : Want
  pub at : IsEntryAt config v.table v.key place.table place.key
  pub wanted : IsWantAt models config place want
  pub meets : Meets models table key want

-- the verdict is on that entry
abbrev pub IsOn : List ℕ → List ℕ → Verdict → Type 0
IsOn table key v = (v.table ≡ table) × (v.key ≡ key)

-- a verdict that a change of that entry may turn
abbrev pub IsTouched : ModelSet → Config → List ℕ → List ℕ → Verdict → Type 0
IsTouched models config table key v = IsOn table key v ⊎ Wants models config table key v

-- a change of the entry may turn the verdict, or the key has more parts than a want can name
abbrev pub MayTouch : ModelSet → Config → List ℕ → List ℕ → Verdict → Type 0
MayTouch models config table key v =
    IsTouched models config table key v ⊎ (most_parts < length (key_parts key))

-- the entry is the same in both
abbrev pub IsSame : Config → Config → List ℕ → List ℕ → Type 0
IsSame config next table key = entry_of table key next ≡ entry_of table key config

-- an entry isn't the same in the second, and that may turn the verdict
pub record IsTurnedByEntry (models : ModelSet) (config next : Config) (v : Verdict)
    : Type 0 where
  pub table : List ℕ
  pub key : List ℕ
  pub there : IsTrue (is_some (entry_of table key config))
  pub differs : ¬ IsSame config next table key
  pub touches : MayTouch models config table key v

-- a must of the shape of the verdict's entry reads that table
pub record Reads (models : ModelSet) (table : List ℕ) (v : Verdict) : Type 0 where
  pub shape : Shape
  pub shaped : IsShapeOf models v.table v.key shape
  pub must : MustRule
  pub of_shape : Contains shape.musts must
  pub reads : Contains must.reads table

-- a table isn't the same in the second, and a must of the verdict's entry reads it
pub record IsTurnedByTable (models : ModelSet) (config next : Config) (v : Verdict)
    : Type 0 where
  pub table : List ℕ
  pub differs : find table config ≢ find table next
  pub reads : Reads models table v

-- what differs between two configurations may turn the verdict
abbrev pub IsTurned : ModelSet → Config → Config → Verdict → Type 0
IsTurned models config next v =
    IsTurnedByEntry models config next v ⊎ IsTurnedByTable models config next v
