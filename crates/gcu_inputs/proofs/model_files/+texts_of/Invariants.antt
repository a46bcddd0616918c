use Rattle.std.proofs.Common.{length}
use Rattle.gcu_inputs.proofs.model_files.+texts_of.Given as goal

abbrev pub decreases-texts_of : goal.decreases-texts_of
decreases-texts_of l = length l.files.now
