use Rattle.std.proofs.Common.{◌≡◌, ℕ, ◌+◌, ◌<◌, slice_get}
use Rattle.conf_doc.proofs.blocks.are_same.Given as goal

abbrev pub invariant-loop-k : goal.invariant-loop-k
invariant-loop-k l = (m : ℕ) → m < l.k → slice_get l.list (l.i + m) ≡ slice_get l.other (l.j + m)
