-- Models with the flat forms of their types.
use Rattle.std.specs.Prelude.{map}
use Rattle.yang_types.specs.DataTypes.{data_type}
use Rattle.yang_types.specs.Flattening.{flat}
use Rattle.yang_types.specs.declared.types.Ty.{Ty}
use Rattle.yang_model.specs.ModelSets.{ModelSet, TableModel}
use Rattle.yang_model.specs.ShapeCodes.{ty_of}
use Rattle.yang_model.specs.declared.shapes.FieldRule.{FieldRule}
use Rattle.yang_model.specs.declared.shapes.KeyLeaf.{KeyLeaf}
use Rattle.yang_model.specs.declared.shapes.Shape.{Shape}

-- the flat form of a type
abbrev pub flat_ty : Ty → Ty
flat_ty t = ty_of (flat (data_type t))

-- of that of a key leaf
abbrev pub flat_key : KeyLeaf → KeyLeaf
flat_key k = record k { ty = flat_ty k.ty }

-- of that of another leaf or a leaf-list
abbrev pub flat_field : FieldRule → FieldRule
flat_field f = record f { ty = flat_ty f.ty }

-- of those of a list or a fixed container
abbrev pub flat_shape : Shape → Shape
flat_shape s = record s { keys = map flat_key s.keys; fields = map flat_field s.fields }

-- of those of a table
abbrev pub flat_table : TableModel → TableModel
flat_table t = record t { shapes = map flat_shape t.shapes }

-- of all
abbrev pub flat_models : ModelSet → ModelSet
flat_models m = record m { tables = map flat_table m.tables }
