-- A small tree as a tree of nodes.
use Rattle.std.specs.Prelude.{ℕ, ◌==◌, ◌&&◌, Bool, List, [], ◌∷◌, Option, Some, None, slice_get, if◌then◌else◌}
use Rattle.std.specs.Str.{bytes_eq}
use Rattle.xpath_part.specs.Nodes.{NodeTree}
use Rattle.xpath_part.specs.declared.nodes.Node.{Node}
use Rattle.base_examples.specs.declared.small_trees.Family.{Family}
use Rattle.base_examples.specs.declared.small_trees.SmallTree.{SmallTree}

-- the node of the number 0
abbrev pub root_node : Node
root_node = record { level = 0; table = 0; key = 0; leaf = 0; item = 0 }

-- all its numbers are 0
abbrev pub is_root : Node → Bool
is_root n = n.level == 0 && (n.table == 0 && (n.key == 0 && (n.leaf == 0 && n.item == 0)))

-- the family of a node and a name
abbrev pub is_family : Family → Node → List ℕ → Bool
is_family f at name =
    f.parent.level == at.level && f.parent.table == at.table && bytes_eq f.name name

-- the children of the first family of a node and a name
abbrev pub children_of : List Family → Node → List ℕ → List Node
children_of [] at name = []
children_of (f ∷ fs) at name =
    if is_family f at name then f.children else children_of fs at name

-- a node, or the root where there is none
abbrev pub or_root : Option Node → Node
or_root None = root_node
or_root (Some n) = n

-- a text, or the empty one where there is none
abbrev pub or_empty : Option (List ℕ) → List ℕ
or_empty None = []
or_empty (Some text) = text

-- the parents and texts of nodes by their number, and the children of the first family
abbrev pub tree_of : SmallTree → NodeTree
tree_of t = record {
  root = root_node;
  parent = λ n. if is_root n then None else Some (or_root (slice_get t.parents n.table));
  children = λ n name. children_of t.families n name;
  text = λ n. or_empty (slice_get t.texts n.table);
}
