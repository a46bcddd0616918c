use Rattle.std.proofs.Common.{◌≡◌, ◌<◌, ℕ, Some, slice_get}
use Rattle.yang_model.specs.ModelSets.{shapes_of}
use Rattle.yang_model.specs.declared.shapes.Shape.{Shape}
use Rattle.plan_check.specs.OneEntry.{HasReader}
use Rattle.plan_check.proofs.validity.may_read.Given as goal

abbrev pub invariant-loop-place : goal.invariant-loop-place
invariant-loop-place l =
    (i : ℕ) (shape : Shape) → i < l.place → slice_get (shapes_of l.name l.models) i ≡ Some shape
    → ¬ HasReader l.table shape
