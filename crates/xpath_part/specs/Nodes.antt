-- A tree of nodes (XPath 1.0, section 5, in a profile).
use Rattle.std.specs.Prelude.{◌==◌, ◌||◌, ℕ, Bool, List, Option}
use Rattle.xpath_part.specs.declared.nodes.Node.{Node}

-- a tree: its root, and of each node the parent, the children and the text
pub record NodeTree : Type 0 where
  pub root : Node
  -- none of the root
  pub parent : Node → Option Node
  -- those of a name, in order
  pub children : Node → List ℕ → List Node
  -- of a leaf or an item
  pub text : Node → List ℕ

-- the level of a leaf, which beside that of an item of a leaf-list alone has a text
abbrev pub leaf_level : ℕ
leaf_level = 4

-- the level of an item
abbrev pub item_level : ℕ
item_level = 5

-- whether a node has a text
abbrev pub has_text : Node → Bool
has_text n = n.level == leaf_level || n.level == item_level
