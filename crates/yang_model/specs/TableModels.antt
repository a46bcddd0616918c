-- The model of a table that stands in `TableShapes`.
use Rattle.yang_model.specs.declared.models.TableShapes.{TableShapes}
use Rattle.yang_model.specs.ModelSets.{TableModel}

-- its name, the place of its module, its shapes
abbrev pub table_model : TableShapes → TableModel
table_model t = record { name = t.name; owner = t.owner; shapes = t.shapes }
