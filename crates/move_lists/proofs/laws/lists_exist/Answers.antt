use Rattle.move_lists.proofs.ListExistence.{surely_listed}
use Rattle.move_lists.proofs.laws.lists_exist.Goals as goal

pub returns : goal.returns
returns c = surely_listed
