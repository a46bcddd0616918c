use Rattle.std.proofs.Common.{take}
use Rattle.ref_index.specs.PlaceMaps.{PutsAll}
use Rattle.ref_index.proofs.indexes.put_all.Given as goal

abbrev pub invariant-loop-at : goal.invariant-loop-at
invariant-loop-at l = PutsAll (take l.at-index l.wants) l.initial.places l.places
