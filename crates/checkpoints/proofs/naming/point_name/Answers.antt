use Rattle.checkpoints.proofs.NamesOfFiles.{no_ending}
use Rattle.checkpoints.proofs.naming.point_name.Goals as goal

pub returns-in-None : goal.returns-in-None
returns-in-None c = no_ending c.args.file.now c.in-None.ensures.cases
