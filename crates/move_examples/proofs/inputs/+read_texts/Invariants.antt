use Rattle.std.proofs.Common.{length}
use Rattle.move_examples.proofs.inputs.+read_texts.Given as goal

abbrev pub decreases-read_texts : goal.decreases-read_texts
decreases-read_texts l = length l.names.now
