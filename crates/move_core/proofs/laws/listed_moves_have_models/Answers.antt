use Rattle.move_core.proofs.ModelledTables.{listed_modelled}
use Rattle.move_core.proofs.laws.listed_moves_have_models.Goals as goal

pub returns : goal.returns
returns c ctx cur goal m agree is = listed_modelled ctx cur goal agree m is
