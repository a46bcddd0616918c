use Rattle.std.proofs.Common.{◌≡◌, ℕ, ◌<◌, Some, slice_get}
use Rattle.yang_model.specs.ModelSets.{shapes_of}
use Rattle.yang_model.specs.declared.shapes.Shape.{Shape}
use Rattle.move_extend.specs.KeyLengths.{IsShort}
use Rattle.move_extend.proofs.key_lengths.has_short_keys.Given as goal

abbrev pub invariant-loop-place : goal.invariant-loop-place
invariant-loop-place l =
    (j : ℕ) → j < l.place → (s : Shape) → slice_get (shapes_of l.table l.models) j ≡ Some s → IsShort s
