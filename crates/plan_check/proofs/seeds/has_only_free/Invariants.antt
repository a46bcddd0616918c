use Rattle.std.proofs.Common.{◌≡◌, ◌<◌, ℕ, List, Some, slice_get}
use Rattle.conf_doc.specs.declared.configuration.Value.{Value}
use Rattle.plan_check.specs.NewEntries.{IsFreeField}
use Rattle.plan_check.proofs.seeds.has_only_free.Given as goal

abbrev pub invariant-loop-i : goal.invariant-loop-i
invariant-loop-i l =
    (j : ℕ) (f : List ℕ) (v : Value) → j < l.i → slice_get l.new j ≡ Some (f, v) → IsFreeField l.here l.whole f v
