use Rattle.yang_model.proofs.OneReading.{readers_once}
use Rattle.yang_model.proofs.laws.readers_are_one.Goals as goal

pub returns : goal.returns
returns c = readers_once
