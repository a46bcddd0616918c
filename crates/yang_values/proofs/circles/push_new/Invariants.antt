use Rattle.std.proofs.Common.{map, take}
use Rattle.yang_values.specs.Walks.{placed, IsAdded}
use Rattle.yang_values.proofs.circles.push_new.Given as goal

abbrev pub invariant-loop-other : goal.invariant-loop-other
invariant-loop-other l = IsAdded (map placed l.fn.places.items.items) (map placed (take l.other-index l.others)) (map placed l.places.items.items)
