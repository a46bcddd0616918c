use Rattle.std.proofs.Common.{◌≡◌, ◌+◌, ◌*◌, map, take}
use Rattle.conf_doc.specs.Document.{items_of, members_of, weight, items_weight, members_weight}
use Rattle.conf_doc.specs.Trees.{document, named_document}
use Rattle.conf_doc.proofs.tree_copies.+copying.Given as goal

abbrev pub decreases-copy_tree : goal.decreases-copy_tree
decreases-copy_tree l = 2 * weight (document l.tree.now)

abbrev pub decreases-copy_items : goal.decreases-copy_items
decreases-copy_items l = 2 * items_weight (items_of l.items.now) + 1

abbrev pub decreases-copy_members : goal.decreases-copy_members
decreases-copy_members l = 2 * members_weight (members_of l.members.now) + 1

abbrev pub invariant-copy_items-loop-item : goal.invariant-copy_items-loop-item
invariant-copy_items-loop-item l = l.copies ≡ map document (take l.item-index l.item-items)

abbrev pub invariant-copy_members-loop-name : goal.invariant-copy_members-loop-name
invariant-copy_members-loop-name l = map named_document l.copies.items ≡ map named_document (take l.name-index l.name-items)
