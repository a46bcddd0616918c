use Rattle.checkpoints.proofs.PointMaps.{alike_files}
use Rattle.checkpoints.proofs.laws.points_are_in_their_files.Goals as goal

pub returns : goal.returns
returns c = λ before after alike. alike_files after before alike
