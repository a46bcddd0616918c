-- A document weighs more than what stands in it.
use Rattle.std.specs.Prelude.{◌≤◌, List, [], ◌∷◌, map, max}
use Rattle.std.proofs.Common.{arith}
use Rattle.conf_doc.specs.Document.{items_of, members_of, items_weight, members_weight, weight}
use Rattle.conf_doc.specs.Trees.{document}
use Rattle.conf_doc.specs.declared.trees.Tree.{Tree}
use Rattle.conf_doc.specs.declared.trees.Tree.TheVariants.{Text, List as Listed, Map}
use Rattle.conf_doc.specs.declared.trees.Items.TheDeep.{deep-Tree}
use Rattle.conf_doc.specs.declared.trees.Items.TheShapes.{weighed-Members-members-at-2}
use Rattle.host_core.specs.declared.texts.Txt.{Txt}
use denote.Param.Weighed.{most, w_this}

-- how deep a tree is built stays below its weight
pub deep_weight : (t : Tree) → deep-Tree t ≤ weight (document t)
deep_weight (Text s) = omega arith
deep_weight (Listed ds) = omega arith
deep_weight (Map ms) = omega arith

-- each item is below the items
pub items_fall : (ts : List Tree)
    → max (most (λ t. w_this.weight _ deep-Tree t) ts) 0 ≤ items_weight (items_of (map document ts))
items_fall [] = omega arith
items_fall (t ∷ ts) = omega (arith, items_fall ts, deep_weight t)

-- each member is below the members
pub members_fall : (ts : List (Txt × Tree))
    → max (most (λ t. weighed-Members-members-at-2.weight _ deep-Tree t) ts) 0
    ≤ members_weight (members_of (map (λ m. (m.0, document m.1)) ts))
members_fall [] = omega arith
members_fall (t ∷ ts) = omega (arith, members_fall ts, deep_weight t.1)
