-- Which tables have a field that may want: those with one of a leafref or a union.
use Rattle.std.specs.Prelude.{◌≡◌, ℕ, Bool, true, false, List, Some, slice_get}
use Rattle.std.specs.List.{list_any}
use Rattle.yang_model.specs.ModelSets.{ModelSet, shapes_of}
use Rattle.yang_model.specs.declared.shapes.Shape.{Shape}
use Rattle.yang_types.specs.DataType.{DataType, leafref, union}
use Rattle.yang_types.specs.DataTypes.{data_type}

-- a leafref wants, a union may by a member, and other types want nothing
abbrev pub may_want : DataType → Bool
may_want (leafref target t) = true
may_want (union ts) = true
may_want t = false

-- a field of the shape is of such a type
abbrev pub fields_may_want : Shape → Bool
fields_may_want shape = list_any (λ rule. may_want (data_type rule.ty)) shape.fields

-- so is a field of some shape of the table
pub record HasWantingField (models : ModelSet) (table : List ℕ) : Type 0 where
  pub place : ℕ
  pub shape : Shape
  pub at : slice_get (shapes_of table models) place ≡ Some shape
  pub may : fields_may_want shape ≡ true
