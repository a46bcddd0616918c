use Rattle.std.proofs.Common.{length}
use Rattle.patch_core.proofs.path_edits.+edit_along.Given as goal

abbrev pub decreases-edit_along : goal.decreases-edit_along
decreases-edit_along l = length l.rest.now
