-- What is said of a text by its type, and of the keys of one table.
use Rattle.std.specs.Prelude.{◌≡◌, ℕ, Bool, true, false, List, map, Some, slice_get, Contains}
use Rattle.conf_doc.specs.declared.configuration.Config.{Config}
use Rattle.conf_doc.specs.declared.configuration.Table.{Table}
use Rattle.key_split.specs.Key.{key_parts}
use Rattle.yang_model.specs.Belongs.{Belongs}
use Rattle.yang_model.specs.ModelSets.{ModelSet, shapes_of}
use Rattle.yang_types.specs.DataType.{DataType, DataTypes}
use Rattle.yang_types.specs.declared.types.Target.{Target}
use Rattle.conf_check.specs.Acceptance.{AcceptsIn, AcceptsAnyIn, IsWanted, IsFirstWanted}
use Rattle.conf_check.specs.declared.acceptance.Verdict.{Verdict}
use Rattle.conf_check.specs.declared.acceptance.Verdict.TheVariants.{Refused, Accepted, Wanted}

-- the key has the text as the wanted part and belongs to the wanted shape
pub record IsMet (models : ModelSet) (target : Target) (text key : List ℕ) : Type 0 where
  pub part : slice_get (key_parts key) target.part ≡ Some text
  pub belongs : Belongs (shapes_of target.table models) key (Some target.shape)

-- some key of the table is so
pub record HasPart (models : ModelSet) (table : Table) (target : Target)
    (text : List ℕ) : Type 0 where
  pub key : List ℕ
  pub there : Contains (map (λ e. e.0) table) key
  pub met : IsMet models target text key

-- whether a verdict is that the text is accepted
abbrev pub is_accepted : Verdict → Bool
is_accepted Refused = false
is_accepted Accepted = true
is_accepted (Wanted r) = true

-- what is accepted and wanted, by a verdict
abbrev pub AgreesWith : Type 0 → (Target → Type 0) → Verdict → Type 0
AgreesWith IsAccepted Wants Refused = ¬ IsAccepted
AgreesWith IsAccepted Wants Accepted = IsAccepted × ((r : Target) → ¬ Wants r)
AgreesWith IsAccepted Wants (Wanted r) = IsAccepted × Wants r.now

-- the verdict of a type on a text
abbrev pub IsVerdict : ModelSet → Config → DataType → List ℕ → Verdict → Type 0
IsVerdict models config t s =
    AgreesWith (AcceptsIn models config t s) (IsWanted models config t s)

-- the verdict of several types, of which some member is to accept
abbrev pub IsVerdictOfAny : ModelSet → Config → DataTypes → List ℕ → Verdict → Type 0
IsVerdictOfAny models config ts s =
    AgreesWith (AcceptsAnyIn models config ts s) (IsFirstWanted models config ts s)
