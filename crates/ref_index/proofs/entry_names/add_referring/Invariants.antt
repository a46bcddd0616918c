use Rattle.std.proofs.Common.{◌<◌, ℕ}
use Rattle.ref_index.specs.EntryNames.{StayNamed}
use Rattle.ref_index.proofs.Sides.{ReferringAt}
use Rattle.ref_index.proofs.entry_names.add_referring.Given as goal

abbrev pub invariant-loop-t : goal.invariant-loop-t
invariant-loop-t l =
    StayNamed l.initial.found.items l.found.items × ((j : ℕ) → j < l.t → ReferringAt l.models l.to l.parts l.first l.second l.found.items j)
