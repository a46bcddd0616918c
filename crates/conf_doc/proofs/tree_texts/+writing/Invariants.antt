use Rattle.std.proofs.Common.{◌≡◌, ◌+◌, ◌*◌, ◌∷◌, ◌++◌, map, take}
use Rattle.json.specs.Token.{begin_array, begin_object}
use Rattle.conf_doc.specs.Document.{items_of, members_of, weight, items_weight, members_weight}
use Rattle.conf_doc.specs.Sound.{AreSoundItems, AreSoundMembers}
use Rattle.conf_doc.specs.Tokens.{opened_items, opened_members}
use Rattle.conf_doc.specs.Trees.{document, named_document}
use Rattle.conf_doc.proofs.tree_texts.+writing.Given as goal

abbrev pub decreases-write_tree : goal.decreases-write_tree
decreases-write_tree l = 2 * weight (document l.tree.now)

abbrev pub decreases-write_items : goal.decreases-write_items
decreases-write_items l = 2 * items_weight (items_of l.items.now) + 1

abbrev pub decreases-write_members : goal.decreases-write_members
decreases-write_members l = 2 * members_weight (members_of l.members.now) + 1

abbrev pub invariant-write_items-loop-item : goal.invariant-write_items-loop-item
invariant-write_items-loop-item l = record {
  before : l.text.before ≡ l.fn.text.before;
  tokens : l.text.tokens ≡ l.fn.text.tokens ++ begin_array ∷ opened_items document (take l.item-index l.item-items);
  sound : AreSoundItems (items_of (map document (take l.item-index l.item-items)));
}

abbrev pub invariant-write_members-loop-name : goal.invariant-write_members-loop-name
invariant-write_members-loop-name l = record {
  before : l.text.before ≡ l.fn.text.before;
  tokens : l.text.tokens ≡ l.fn.text.tokens ++ begin_object ∷ opened_members document (take l.name-index l.name-items);
  sound : AreSoundMembers (members_of (map named_document (take l.name-index l.name-items)));
}
