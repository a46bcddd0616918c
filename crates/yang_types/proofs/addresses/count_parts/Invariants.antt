use Rattle.std.proofs.Common.{◌≡◌, ◌≤◌, length}
use Rattle.std.specs.List.{All}
use Rattle.yang_types.specs.Parts.{IsPart}
use Rattle.yang_types.proofs.addresses.count_parts.Given as goal

abbrev pub invariant-loop-piece : goal.invariant-loop-piece
invariant-loop-piece l =
    (l.count ≤ l.most) × (l.count ≡ length l.yielded) × All (λ piece. IsPart l.part piece.now) l.yielded
