use Rattle.yang_model.specs.Belongs.{Belongs-once}
use Rattle.yang_model.proofs.laws.belongs_once.Goals as goal

pub returns : goal.returns
returns c = Belongs-once
