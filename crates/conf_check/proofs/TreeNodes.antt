-- Which numbers are nodes, and the children and parents of those of each level.
use Rattle.std.proofs.Common.{◌≡◌, ◌<◌, ℕ, List, [], arith}
use Rattle.xpath_part.specs.declared.nodes.Node.{Node}
use Rattle.conf_check.specs.NodeTrees.{HasModule, IsNodeOf, entries_of, leaves_of, modules_of, tables_of, tree_of}
use Rattle.conf_check.specs.declared.config_nodes.ConfigNodes.{ConfigNodes}
use Rattle.conf_check.proofs.NodeLists.{level_2}

module _ (s : ConfigNodes) where
  -- what stands below a module is a node where its table has a model
  pub below_is_node : (n : Node) → 1 < n.level → HasModule s n.table → IsNodeOf s n
  below_is_node n level has = record { root = λ e. absurd (omega arith); below = λ _. has }

  module _ (n : Node) (name : List ℕ) where
    abbrev children : List Node
    children = (tree_of s).children n name

    pub children_of_table : n.level ≡ 2 → children ≡ entries_of s n.table name
    children_of_table e = level_2 n.level (modules_of s name) (tables_of s n.table name) (entries_of s n.table name) (leaves_of s n.table n.key name) [] e
