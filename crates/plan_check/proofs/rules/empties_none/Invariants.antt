use Rattle.std.proofs.Common.{◌≡◌, ◌<◌, ℕ, List, [], Some, map, slice_get}
use Rattle.conf_doc.specs.Pairs.{find}
use Rattle.plan_check.proofs.rules.empties_none.Given as goal

abbrev pub invariant-loop-i : goal.invariant-loop-i
invariant-loop-i l =
    (j : ℕ) (t : List ℕ) → j < l.i → slice_get (map (λ p. p.0) l.next) j ≡ Some t
    → find t l.next ≡ Some [] → find t l.cur ≡ Some []
