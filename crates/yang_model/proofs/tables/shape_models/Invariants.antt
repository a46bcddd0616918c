use Rattle.std.proofs.Common.{◌≡◌, length, map, take}
use Rattle.yang_model.specs.Readers.{Gives}
use Rattle.yang_model.specs.Leaves.{stored}
use Rattle.yang_model.specs.Shapes.{shape_model}
use Rattle.yang_model.proofs.tables.shape_models.Given as goal

abbrev pub invariant-loop-shape : goal.invariant-loop-shape
invariant-loop-shape l = record {
  models : Gives l.shapes (λ readers. map (shape_model stored l.names readers l.container l.table) (take l.shape-index l.shape-items));
  count : length l.shapes ≡ l.shape-index;
}
