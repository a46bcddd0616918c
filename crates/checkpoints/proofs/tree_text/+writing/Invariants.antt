use Rattle.std.proofs.Common.{◌≡◌, ◌+◌, ◌*◌, ◌∷◌, ◌++◌, take}
use Rattle.json.specs.Token.{begin_array, begin_object}
use Rattle.conf_doc.specs.Document.{items_of, members_of, weight, items_weight, members_weight}
use Rattle.conf_doc.specs.Tokens.{opened_items, opened_members}
use Rattle.conf_doc.specs.Trees.{document}
use Rattle.checkpoints.proofs.tree_text.+writing.Given as goal

abbrev pub decreases-write_tree : goal.decreases-write_tree
decreases-write_tree l = 2 * weight (document l.tree.now)

abbrev pub decreases-write_items : goal.decreases-write_items
decreases-write_items l = 2 * items_weight (items_of l.items.now) + 1

abbrev pub decreases-write_members : goal.decreases-write_members
decreases-write_members l = 2 * members_weight (members_of l.members.now) + 1

abbrev pub invariant-write_items-loop-item : goal.invariant-write_items-loop-item
invariant-write_items-loop-item l = l.text ≡ l.fn.text ++ begin_array ∷ opened_items document (take l.item-index l.item-items)

abbrev pub invariant-write_members-loop-i : goal.invariant-write_members-loop-i
invariant-write_members-loop-i l = l.text ≡ l.fn.text ++ begin_object ∷ opened_members (λ d. d) (take l.i l.members)
