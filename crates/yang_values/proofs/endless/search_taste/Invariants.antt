use Rattle.std.proofs.Common.{map, take}
use Rattle.std.specs.Prelude.{Contains}
use Rattle.yang_values.specs.Endless.{place_of}
use Rattle.yang_values.specs.Walks.{placed}
use Rattle.yang_values.proofs.endless.search_taste.Given as goal

abbrev pub invariant-loop-entry : goal.invariant-loop-entry
invariant-loop-entry l = ¬ (Contains (map place_of (take l.entry-index l.known)) (placed l.place))
