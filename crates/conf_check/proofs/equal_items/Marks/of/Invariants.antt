use Rattle.std.proofs.Common.{◌≡◌, ◌<◌, ℕ, List, length, Some, slice_get}
use Rattle.conf_check.specs.EqualItems.{IsMarked}
use Rattle.conf_check.proofs.equal_items.Marks.of.Given as goal

abbrev pub invariant-loop-text : goal.invariant-loop-text
invariant-loop-text l = record {
  marked : (j : ℕ) (s : List ℕ) → j < l.text-index → slice_get l.texts j ≡ Some s → IsMarked l.taken s;
  count : length l.taken ≡ 16384;
}
