use Rattle.std.proofs.Common.{length}
use Rattle.move_examples.proofs.rechecks.+answers_all.Given as goal

abbrev pub decreases-answers_all : goal.decreases-answers_all
decreases-answers_all l = length l.asked.now
