use Rattle.std.proofs.Common.{◌≡◌, ◌<◌, ℕ, List, Some, map, slice_get}
use Rattle.plan_check.specs.Requirements.{DiffersAt}
use Rattle.plan_check.proofs.required.differs_in.Given as goal

abbrev pub invariant-loop-i : goal.invariant-loop-i
invariant-loop-i l =
    (j : ℕ) (key : List ℕ) → j < l.i → slice_get (map (λ e. e.0) l.entries) j ≡ Some key → ¬ DiffersAt l.change l.place key
