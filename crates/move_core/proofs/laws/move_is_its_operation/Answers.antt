use Rattle.move_core.proofs.OperationResults.{plainly}
use Rattle.move_core.proofs.laws.move_is_its_operation.Goals as goal

pub returns : goal.returns
returns c = plainly
