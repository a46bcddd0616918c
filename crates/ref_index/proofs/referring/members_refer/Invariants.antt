use Rattle.std.proofs.Common.{◌≡◌, ℕ, ◌<◌, Some, true, slice_get}
use Rattle.yang_types.specs.DataType.{DataType}
use Rattle.ref_index.specs.Referring.{member_refers}
use Rattle.ref_index.proofs.referring.members_refer.Given as goal

abbrev pub invariant-loop-i : goal.invariant-loop-i
invariant-loop-i l = (j : ℕ) → j < l.i → (t : DataType) → slice_get l.types j ≡ Some t → ¬ (member_refers l.to t ≡ true)
