use Rattle.std.proofs.Common.{◌≡◌, ◌≤◌, drop}
use Rattle.std.specs.Str.{bytes_eq}
use Rattle.yang_values.specs.Targets.{is_filled}
use Rattle.yang_values.proofs.Places.{among}
use Rattle.yang_values.proofs.targets.place_in.Given as goal

abbrev pub invariant-loop-piece : goal.invariant-loop-piece
invariant-loop-piece l = record {
  few : l.before ≤ l.piece-index;
  same : among (λ b. bytes_eq l.name b.now) (λ b. is_filled b.now) 0 l.pieces
      ≡ among (λ b. bytes_eq l.name b.now) (λ b. is_filled b.now) l.before (drop l.piece-index l.pieces);
}
