use Rattle.std.proofs.Common.{◌≡◌, ℕ, ◌<◌, Some, true, slice_get}
use Rattle.yang_model.specs.ModelSets.{shapes_of}
use Rattle.yang_model.specs.declared.shapes.Shape.{Shape}
use Rattle.move_gen.specs.WantingFields.{fields_may_want}
use Rattle.move_gen.proofs.wanting_fields.has_wanting_field.Given as goal

abbrev pub invariant-loop-place : goal.invariant-loop-place
invariant-loop-place l =
    (j : ℕ) → j < l.place → (s : Shape) → slice_get (shapes_of l.table l.models) j ≡ Some s → ¬ (fields_may_want s ≡ true)
