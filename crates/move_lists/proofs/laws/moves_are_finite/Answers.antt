use Rattle.move_lists.proofs.MoveForms.{listed_finite}
use Rattle.move_lists.proofs.laws.moves_are_finite.Goals as goal

pub returns : goal.returns
returns c = listed_finite
