use Rattle.std.proofs.Common.{All, take}
use Rattle.yang_values.specs.Endings.{DoesEnd}
use Rattle.yang_values.specs.Walks.{placed}
use Rattle.yang_values.proofs.endings.Endings.do_end.Given as goal

abbrev pub invariant-loop-place : goal.invariant-loop-place
invariant-loop-place l = All (λ p. DoesEnd l.self (placed p)) (take l.place-index l.places)
