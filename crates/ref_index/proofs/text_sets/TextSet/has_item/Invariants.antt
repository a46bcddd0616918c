use Rattle.std.proofs.Common.{◌≡◌, ℕ, ◌<◌, List, Some, slice_get}
use Rattle.ref_index.specs.Texts.{Has}
use Rattle.ref_index.proofs.text_sets.TextSet.has_item.Given as goal

abbrev pub invariant-loop-item : goal.invariant-loop-item
invariant-loop-item l = (j : ℕ) → j < l.item-index → (s : List ℕ) → slice_get l.items j ≡ Some s → ¬ Has l.self s
