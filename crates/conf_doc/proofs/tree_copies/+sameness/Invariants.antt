use Rattle.std.proofs.Common.{◌≡◌, ℕ, ◌+◌, ◌*◌, ◌<◌, map, slice_get}
use Rattle.conf_doc.specs.Document.{items_of, members_of, weight, items_weight, members_weight}
use Rattle.conf_doc.specs.Trees.{document}
use Rattle.conf_doc.proofs.tree_copies.+sameness.Given as goal

abbrev pub decreases-same_trees : goal.decreases-same_trees
decreases-same_trees l = 2 * weight (document l.left.now)

abbrev pub decreases-same_items : goal.decreases-same_items
decreases-same_items l = 2 * items_weight (items_of l.left.now) + 1

abbrev pub decreases-same_members : goal.decreases-same_members
decreases-same_members l = 2 * members_weight (members_of l.left.now) + 1

abbrev pub invariant-same_items-loop-i : goal.invariant-same_items-loop-i
invariant-same_items-loop-i l = (k : ℕ) → k < l.i → slice_get l.left k ≡ slice_get l.right k

abbrev pub invariant-same_members-loop-i : goal.invariant-same_members-loop-i
invariant-same_members-loop-i l = (k : ℕ) → k < l.i → (slice_get (map (λ m. m.0) l.left) k ≡ slice_get (map (λ m. m.0) l.right) k) × (slice_get (map (λ m. m.1) l.left) k ≡ slice_get (map (λ m. m.1) l.right) k)
