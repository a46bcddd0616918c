use Rattle.std.proofs.Common.{map}
use Rattle.yang_values.specs.Walks.{placed, AreReachedUpTo}
use Rattle.yang_values.proofs.circles.reached.Given as goal

abbrev pub invariant-loop-i : goal.invariant-loop-i
invariant-loop-i l = AreReachedUpTo l.names l.i (placed l.fn.place) (map placed l.places.items.items)
