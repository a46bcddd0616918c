use Rattle.std.proofs.Common.{◌<◌, ℕ}
use Rattle.ref_index.proofs.Sides.{HoldsAt}
use Rattle.ref_index.proofs.entry_names.parts_of.Given as goal

abbrev pub invariant-loop-i : goal.invariant-loop-i
invariant-loop-i l = (j : ℕ) → j < l.i → HoldsAt l.names l.parts j
