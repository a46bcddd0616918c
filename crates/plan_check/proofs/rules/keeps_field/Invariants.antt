use Rattle.std.proofs.Common.{◌≡◌, ◌<◌, ℕ, List, Some, map, slice_get}
use Rattle.plan_check.specs.Keeping.{KeepsFieldAt}
use Rattle.plan_check.proofs.rules.keeps_field.Given as goal

abbrev pub invariant-loop-i : goal.invariant-loop-i
invariant-loop-i l =
    (j : ℕ) (k : List ℕ) → j < l.i → slice_get (map (λ p. p.0) l.entries) j ≡ Some k
    → KeepsFieldAt l.cur l.next l.rule k
