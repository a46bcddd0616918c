use Rattle.std.proofs.Common.{length}
use Rattle.patch_core.proofs.walks.+target.Given as goal

abbrev pub decreases-target : goal.decreases-target
decreases-target l = length l.tokens.now
