use Rattle.yang_model.proofs.FlatModels.{models_flat}
use Rattle.yang_model.proofs.laws.models_are_stored_flat.Goals as goal

pub returns : goal.returns
returns c = models_flat
