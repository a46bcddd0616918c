use Rattle.std.proofs.Common.{◌<◌, ℕ}
use Rattle.ref_index.specs.EntryNames.{StayNamed}
use Rattle.ref_index.proofs.Sides.{LoneOf}
use Rattle.ref_index.proofs.entry_names.add_lone_of.Given as goal

abbrev pub invariant-loop-k : goal.invariant-loop-k
invariant-loop-k l =
    StayNamed l.initial.found.items l.found.items × ((j : ℕ) → j < l.k → LoneOf l.name l.left l.right l.found.items j)
