use Rattle.std.proofs.Common.{length}
use Rattle.gcu_requests.proofs.session_patches.+patch_at.Given as goal

abbrev pub decreases-patch_at : goal.decreases-patch_at
decreases-patch_at l = length l.found.now
