use Rattle.move_lists.proofs.OneList.{one_list}
use Rattle.move_lists.proofs.laws.lists_are_one.Goals as goal

pub returns : goal.returns
returns c = one_list
