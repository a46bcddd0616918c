use Rattle.std.proofs.Common.{◌≡◌, ℕ, ◌<◌, Some, true, slice_get}
use Rattle.yang_model.specs.declared.shapes.KeyLeaf.{KeyLeaf}
use Rattle.yang_types.specs.DataTypes.{data_type}
use Rattle.ref_index.specs.Referring.{type_refers}
use Rattle.ref_index.proofs.referring.keys_refer.Given as goal

abbrev pub invariant-loop-i : goal.invariant-loop-i
invariant-loop-i l = (j : ℕ) → j < l.i → (leaf : KeyLeaf) → slice_get l.leaves j ≡ Some leaf → ¬ (type_refers l.to (data_type leaf.ty) ≡ true)
