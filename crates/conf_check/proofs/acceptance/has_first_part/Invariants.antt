use Rattle.std.proofs.Common.{◌≡◌, ◌<◌, ℕ, List, Some, map, slice_get}
use Rattle.conf_check.specs.Verdicts.{IsMet}
use Rattle.conf_check.specs.Wants.{want_of}
use Rattle.conf_check.proofs.acceptance.has_first_part.Given as goal

abbrev pub invariant-loop-i : goal.invariant-loop-i
invariant-loop-i l =
    (j : ℕ) (key : List ℕ) → j < l.i → slice_get (map (λ e. e.0) l.table) j ≡ Some key
    → ¬ IsMet l.models (want_of l.want).target l.want.text.now key
