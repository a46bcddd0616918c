use Rattle.checkpoints.proofs.OtherFiles.{points_kept}
use Rattle.checkpoints.proofs.laws.points_are_in_other_files.Goals as goal

pub returns : goal.returns
returns c = λ before after others. points_kept before after others
