use Rattle.std.proofs.Common.{◌≡◌, ◌+◌, ◌*◌, ◌≤◌, take}
use Rattle.conf_doc.specs.Document.{items_depth, items_of, items_weight, members_depth, members_of, members_weight, weight}
use Rattle.conf_doc.specs.Trees.{document}
use Rattle.patch_core.proofs.weights.+weighing.Given as goal

abbrev pub decreases-left_after : goal.decreases-left_after
decreases-left_after l = 2 * weight (document l.tree.now)

abbrev pub decreases-left_after_items : goal.decreases-left_after_items
decreases-left_after_items l = 2 * items_weight (items_of l.items.now) + 1

abbrev pub decreases-left_after_members : goal.decreases-left_after_members
decreases-left_after_members l = 2 * members_weight (members_of l.members.now) + 1

abbrev pub invariant-left_after_items-loop-i : goal.invariant-left_after_items-loop-i
invariant-left_after_items-loop-i l = (l.left + items_weight (items_of (take l.i l.items)) ≡ l.budget) × (items_depth (items_of (take l.i l.items)) ≤ l.levels)

abbrev pub invariant-left_after_members-loop-i : goal.invariant-left_after_members-loop-i
invariant-left_after_members-loop-i l = (l.left + members_weight (members_of (take l.i l.members)) ≡ l.budget) × (members_depth (members_of (take l.i l.members)) ≤ l.levels)
