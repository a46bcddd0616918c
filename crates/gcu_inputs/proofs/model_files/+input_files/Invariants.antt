use Rattle.std.proofs.Common.{length}
use Rattle.gcu_inputs.proofs.model_files.+input_files.Given as goal

abbrev pub decreases-input_files : goal.decreases-input_files
decreases-input_files g l = length l.paths.now
