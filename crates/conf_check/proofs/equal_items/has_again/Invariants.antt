use Rattle.std.proofs.Common.{◌≡◌, ◌<◌, ℕ, List, Some, slice_get}
use Rattle.std.specs.List.{Contains}
use Rattle.conf_check.proofs.equal_items.has_again.Given as goal

abbrev pub invariant-loop-text : goal.invariant-loop-text
invariant-loop-text l =
    (j : ℕ) (s : List ℕ) → j < l.text-index → slice_get l.behind j ≡ Some s → ¬ Contains l.group s
