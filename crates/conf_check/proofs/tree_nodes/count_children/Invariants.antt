use Rattle.std.proofs.Common.{◌≡◌, ◌≤◌, ◌-◌, length, slice_get}
use Rattle.conf_check.specs.NodeTrees.{tree_of}
use Rattle.conf_check.proofs.tree_nodes.count_children.Given as goal

abbrev pub invariant-loop-next : goal.invariant-loop-next
invariant-loop-next l = record {
  within : l.count ≤ length ((tree_of l.nodes).children l.at l.name);
  here : l.next ≡ slice_get ((tree_of l.nodes).children l.at l.name) l.count;
}

abbrev pub decreases-loop-next : goal.decreases-loop-next
decreases-loop-next l = length ((tree_of l.nodes).children l.at l.name) - l.count
