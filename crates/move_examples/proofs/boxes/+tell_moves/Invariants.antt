use Rattle.std.proofs.Common.{length}
use Rattle.move_examples.proofs.boxes.+tell_moves.Given as goal

abbrev pub decreases-tell_moves : goal.decreases-tell_moves
decreases-tell_moves g l = length l.moves.now
