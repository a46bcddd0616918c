use Rattle.std.proofs.Common.{take}
use Rattle.ref_index.specs.PlaceMaps.{TakesAll}
use Rattle.ref_index.proofs.indexes.take_all.Given as goal

abbrev pub invariant-loop-at : goal.invariant-loop-at
invariant-loop-at l = TakesAll (take l.at-index l.wants) l.initial.places l.places
