use Rattle.std.proofs.Common.{take}
use Rattle.yang_pattern.specs.PlaceSets.{IsAppended}
use Rattle.yang_pattern.proofs.fragments.append.Given as goal

abbrev pub invariant-loop-place : goal.invariant-loop-place
invariant-loop-place l = IsAppended l.initial.places.items (take l.place-index l.more) l.places.items
