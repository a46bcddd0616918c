use Rattle.std.proofs.Common.{◌≡◌, ◌<◌, ℕ, List, Some, slice_get}
use Rattle.conf_doc.specs.declared.configuration.Value.{Value}
use Rattle.plan_check.specs.NewEntries.{HasIfFree}
use Rattle.plan_check.proofs.seeds.has_free.Given as goal

abbrev pub invariant-loop-i : goal.invariant-loop-i
invariant-loop-i l =
    (j : ℕ) (f : List ℕ) (v : Value) → j < l.i → slice_get l.whole.entry.now j ≡ Some (f, v) → HasIfFree l.here l.whole f v l.new
