use Rattle.std.proofs.Common.{take}
use Rattle.ref_index.specs.EntryNames.{AddsLacking}
use Rattle.ref_index.proofs.differences.add_lacking.Given as goal

abbrev pub invariant-loop-at : goal.invariant-loop-at
invariant-loop-at l = AddsLacking (take l.at-index l.listed) l.others l.initial.found.items l.found.items
