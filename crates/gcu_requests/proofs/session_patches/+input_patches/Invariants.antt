use Rattle.std.proofs.Common.{length}
use Rattle.gcu_requests.proofs.session_patches.+input_patches.Given as goal

abbrev pub decreases-input_patches : goal.decreases-input_patches
decreases-input_patches g l = length l.lines.now
