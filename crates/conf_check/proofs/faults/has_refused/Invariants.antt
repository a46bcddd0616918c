use Rattle.std.proofs.Common.{◌≡◌, ◌<◌, ℕ, List, Some, slice_get}
use Rattle.yang_types.specs.DataTypes.{data_type}
use Rattle.conf_check.specs.Validity.{IsRefused}
use Rattle.conf_check.proofs.faults.has_refused.Given as goal

abbrev pub invariant-loop-text : goal.invariant-loop-text
invariant-loop-text l =
    (j : ℕ) (s : List ℕ) → j < l.text-index → slice_get l.texts j ≡ Some s
    → ¬ IsRefused l.models l.config (data_type l.ty, s)
