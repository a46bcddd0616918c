use Rattle.std.proofs.Common.{◌≡◌, ℕ, ◌<◌, Some, true, slice_get}
use Rattle.yang_model.specs.ModelSets.{shapes_of}
use Rattle.yang_model.specs.declared.shapes.Shape.{Shape}
use Rattle.ref_index.specs.Referring.{shape_refers}
use Rattle.ref_index.proofs.referring.table_refers.Given as goal

abbrev pub invariant-loop-place : goal.invariant-loop-place
invariant-loop-place l =
    (j : ℕ) → j < l.place → (s : Shape) → slice_get (shapes_of l.table l.models) j ≡ Some s → ¬ (shape_refers l.to s ≡ true)
