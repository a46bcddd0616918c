use Rattle.std.proofs.Common.{◌≡◌, ◌+◌, ◌*◌, ◌∷◌, ◌++◌, take}
use Rattle.json.specs.Token.{begin_array, begin_object}
use Rattle.conf_doc.specs.Document.{items_of, members_of, weight, items_weight, members_weight}
use Rattle.conf_doc.specs.Tokens.{opened_items, opened_members}
use Rattle.conf_doc.specs.Trees.{document}
use Rattle.gcu_output.proofs.TreeTexts.{itself}
use Rattle.gcu_output.proofs.tree_text.+writing.Given as goal

abbrev pub decreases-write_tree : goal.decreases-write_tree
decreases-write_tree l = 2 * weight (document l.tree.now)

abbrev pub decreases-write_items : goal.decreases-write_items
decreases-write_items l = 2 * items_weight (items_of l.items.now) + 1

abbrev pub decreases-write_members : goal.decreases-write_members
decreases-write_members l = 2 * members_weight (members_of l.members.now) + 1

abbrev pub invariant-write_items-loop-i : goal.invariant-write_items-loop-i
invariant-write_items-loop-i l = l.out ≡ l.fn.out ++ begin_array ∷ opened_items itself (take l.i l.items)

abbrev pub invariant-write_members-loop-i : goal.invariant-write_members-loop-i
invariant-write_members-loop-i l = l.out ≡ l.fn.out ++ begin_object ∷ opened_members itself (take l.i l.members)
