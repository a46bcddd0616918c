use Rattle.plan_check.proofs.ItemLists.{item_added, item_removed}
use Rattle.plan_check.proofs.items.is_item_move.Goals as goal

pub returns-in-AddItem : goal.returns-in-AddItem
returns-in-AddItem c =
    item_added c.args.cur.now c.args.goal.now c.args.mv.now _ _ _ _ c.adds_item.result c.in-AddItem.is c.as_str.ensures.text c.adds_item.ensures

pub returns-in-RemoveItem : goal.returns-in-RemoveItem
returns-in-RemoveItem c = item_removed c.args.cur.now c.args.goal.now c.args.mv.now _ _ c.removes_item.result c.in-RemoveItem.is c.removes_item.ensures
