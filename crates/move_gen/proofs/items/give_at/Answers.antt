use Rattle.move_gen.specs.ItemsGiven.{IsAddedItem, IsItemAt, IsRemovedItem}
use Rattle.move_gen.proofs.ListGrowth.{gives_both}
use Rattle.move_gen.proofs.ItemMoves.{items_apart}
use Rattle.move_gen.proofs.items.give_at.Goals as goal

pub returns : goal.returns
returns c =
    let old = c.args.old.now in let new = c.args.new.now in let p = c.args.place.now in let i = c.args.i in
    gives_both (IsRemovedItem old new p i) (IsAddedItem old new p i) (IsItemAt old new p i) c.args.out.now.items c.remove_item.new.out.items c.add_item.new.out.items
    (items_apart old new p i) c.add_item.result (λ g. (λ is. is, λ is. is)) c.in_ok-remove_item.ensures c.add_item.ensures
