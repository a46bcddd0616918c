use Rattle.std.proofs.Common.{◌<◌, ℕ}
use Rattle.ref_index.specs.EntryNames.{StayNamed}
use Rattle.ref_index.proofs.Sides.{ChangedOf}
use Rattle.ref_index.proofs.entry_names.add_changed_of.Given as goal

abbrev pub invariant-loop-k : goal.invariant-loop-k
invariant-loop-k l =
    StayNamed l.initial.found.items l.found.items × ((j : ℕ) → j < l.k → ChangedOf l.parts l.name l.left l.right l.found.items j)
