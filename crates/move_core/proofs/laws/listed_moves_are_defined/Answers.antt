use Rattle.move_core.proofs.ListedMoves.{extension_defined, generated_defined, listed_defined}
use Rattle.move_core.proofs.laws.listed_moves_are_defined.Goals as goal

pub returns-clause-generated : goal.returns-clause-generated
returns-clause-generated c ctx cur goal g is = generated_defined ctx cur goal g is

pub returns-clause-extended : goal.returns-clause-extended
returns-clause-extended c ctx cur goal m x formed is defined = extension_defined ctx cur goal formed m x is defined

pub returns-clause-listed : goal.returns-clause-listed
returns-clause-listed c ctx cur goal m formed is = listed_defined ctx cur goal formed m is
