use Rattle.move_gen.proofs.ListHolders.{of_lists}
use Rattle.move_gen.proofs.items.ChangedListsEntryMoves.is_of_lists.Goals as goal

pub returns : goal.returns
returns c = λ yes. of_lists c.args.self.now.cur.now
