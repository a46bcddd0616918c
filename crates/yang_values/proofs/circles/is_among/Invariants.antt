use Rattle.std.proofs.Common.{map, take}
use Rattle.std.specs.Prelude.{Contains}
use Rattle.yang_values.specs.Walks.{placed}
use Rattle.yang_values.proofs.circles.is_among.Given as goal

abbrev pub invariant-loop-other : goal.invariant-loop-other
invariant-loop-other l = ¬ (Contains (map placed (take l.other-index l.places)) (placed l.place))
