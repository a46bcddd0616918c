use Rattle.move_core.specs.Generated.{IsFromItems}
use Rattle.move_gen.specs.Given.{IsOfTable}
use Rattle.move_gen.specs.Giving.{IsOfSome}
use Rattle.move_gen.specs.ItemsGiven.{IsOfItemsOfEntry}
use Rattle.move_gen.proofs.ListGrowth.{gives_alike}
use Rattle.move_gen.proofs.ItemMoves.{of_items}
use Rattle.move_gen.proofs.items.give_items.Goals as goal

pub returns : goal.returns
returns c =
    let cur = c.args.cur.now in let goal = c.args.goal.now in
    gives_alike (IsOfSome (IsOfTable (IsOfItemsOfEntry cur)) goal) (IsFromItems cur goal) c.give_entries.result c.args.out.now.items c.give_entries.new.out.items
    (of_items cur goal) c.give_entries.ensures
