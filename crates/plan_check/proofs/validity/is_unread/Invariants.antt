use Rattle.std.proofs.Common.{◌≡◌, ◌<◌, ℕ, List, Some, map, slice_get}
use Rattle.plan_check.specs.OneEntry.{IsUnreadBy}
use Rattle.plan_check.proofs.validity.is_unread.Given as goal

abbrev pub invariant-loop-i : goal.invariant-loop-i
invariant-loop-i l =
    (j : ℕ) (name : List ℕ) → j < l.i → slice_get (map (λ t. t.0) l.config) j ≡ Some name
    → IsUnreadBy l.models l.table name
