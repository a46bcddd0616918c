use Rattle.std.proofs.Common.{◌≡◌, ◌∷◌, map, take}
use Rattle.yang_values.specs.Endless.{known_of, untried}
use Rattle.yang_values.specs.Walks.{placed}
use Rattle.yang_values.proofs.endless.begin.Given as goal

abbrev pub invariant-loop-other : goal.invariant-loop-other
invariant-loop-other l = map known_of l.known.items ≡ map untried (placed l.place ∷ map placed (take l.other-index l.others))
