use Rattle.std.proofs.Common.{◌≡◌, Some, take}
use Rattle.yang_values.specs.Parts.{part, all_given}
use Rattle.yang_values.proofs.parts.all_parts.Given as goal

abbrev pub invariant-loop-piece : goal.invariant-loop-piece
invariant-loop-piece l = all_given (λ b. part l.values b.now) (take l.piece-index l.pieces) ≡ Some l.found
