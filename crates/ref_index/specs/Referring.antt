-- Which tables may refer to a table: those with a leafref to it.
use Rattle.std.specs.Prelude.{ℕ, Bool, true, false, List, ◌||◌}
use Rattle.std.specs.List.{list_any}
use Rattle.std.specs.Str.{bytes_eq}
use Rattle.yang_model.specs.ModelSets.{ModelSet, shapes_of}
use Rattle.yang_model.specs.declared.shapes.Shape.{Shape}
use Rattle.yang_types.specs.DataType.{DataType, leafref, union, plain_types}
use Rattle.yang_types.specs.DataTypes.{data_type}

-- a member of a union is a leafref to the table, or a union, which isn't looked into
abbrev pub member_refers : List ℕ → DataType → Bool
member_refers to (leafref target t) = bytes_eq target.table to
member_refers to (union ts) = true
member_refers to t = false

-- a type is such a leafref, or a union with such a member
abbrev pub type_refers : List ℕ → DataType → Bool
type_refers to (union ts) = list_any (member_refers to) (plain_types ts)
type_refers to t = member_refers to t

-- so is the type of a leaf of the shape
abbrev pub shape_refers : List ℕ → Shape → Bool
shape_refers to shape =
    list_any (λ leaf. type_refers to (data_type leaf.ty)) shape.keys
    || list_any (λ rule. type_refers to (data_type rule.ty)) shape.fields

-- so is that of some shape of a table
abbrev pub may_refer : ModelSet → List ℕ → List ℕ → Bool
may_refer models table to = list_any (shape_refers to) (shapes_of table models)
