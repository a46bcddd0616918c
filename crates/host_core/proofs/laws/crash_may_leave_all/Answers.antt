use Rattle.std.proofs.Common.{refl}
use Rattle.host_core.proofs.PickedImages.{same_image}
use Rattle.host_core.proofs.laws.crash_may_leave_all.Goals as goal

pub returns-clause-files : goal.returns-clause-files
returns-clause-files c = same_image

pub returns-clause-state : goal.returns-clause-state
returns-clause-state c s = record { files = same_image s.pending s.files; output = refl; restarts = refl }
