use Rattle.move_lists.proofs.PartConcatenation.{parts_joined}
use Rattle.move_lists.proofs.laws.parts_make_the_list.Goals as goal

pub returns : goal.returns
returns c ctx start cur goal_now = parts_joined ctx start cur goal_now
