use Rattle.std.proofs.Common.{◌≡◌, ◌<◌, ℕ, List, Some, map, slice_get}
use Rattle.plan_check.specs.Keeping.{KeepsKey}
use Rattle.plan_check.proofs.rules.keeps_keys_of.Given as goal

abbrev pub invariant-loop-i : goal.invariant-loop-i
invariant-loop-i l =
    (j : ℕ) (k : List ℕ) → j < l.i → slice_get (map (λ p. p.0) l.entries) j ≡ Some k
    → KeepsKey l.rule l.cur l.next l.requiring k
