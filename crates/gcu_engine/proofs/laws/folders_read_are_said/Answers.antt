use Rattle.gcu_engine.proofs.Folders.{stores_is}
use Rattle.gcu_engine.proofs.laws.folders_read_are_said.Goals as goal

pub returns : goal.returns
returns c = λ files config. stores_is files config
