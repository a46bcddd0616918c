use Rattle.std.proofs.Common.{◌≤◌, map, ap, sym, subst, ◌∙◌, take_all, arith}
use Rattle.conf_doc.specs.Document.{items_of, members_of, weight, items_weight, members_weight}
use Rattle.conf_doc.specs.Trees.{document, named_document}
use Rattle.conf_doc.specs.Pairs.{IsRising}
use Rattle.conf_doc.proofs.Tokens.{item_lighter, member_lighter}
use Rattle.conf_doc.proofs.tree_copies.+copying.Goals as goal

pub copy_items-copy_tree-requires : goal.copy_items-copy_tree-requires
copy_items-copy_tree-requires t c =
    let lighter : weight (document c.item-item.result) ≤ items_weight (items_of c.args.items.now) = rw c.items-item-items.ensures at (item_lighter document c.items-item-items.result.now _ _ c.loop-item-test.true c.item-item.is) in
    (omega arith, tt)

pub copy_members-copy_tree-requires : goal.copy_members-copy_tree-requires
copy_members-copy_tree-requires t c =
    let lighter : weight (document c.loop-name-item.result.1) ≤ members_weight (members_of c.args.members.now) = rw c.members-name-items.ensures.list at (member_lighter document c.members-name-items.result.now _ _ c.loop-name-test.true c.loop-name-item.is) in
    (omega arith, tt)

pub copy_members-from_sorted-requires : goal.copy_members-from_sorted-requires
copy_members-from_sorted-requires t c =
    let items = c.members-name-items in
    subst IsRising (sym (c.loop-name.invariant ∙ ap (map named_document) (take_all _ items.result.now c.loop-name-test.false) ∙ items.ensures.list)) items.ensures.rising
