use Rattle.std.proofs.Common.{◌≡◌, Some, slice_get}
use Rattle.conf_check.specs.NodeTrees.{IsNodeOf, tree_of}
use Rattle.conf_check.proofs.tree_nodes.child_at.Given as goal

abbrev pub invariant-loop-place : goal.invariant-loop-place
invariant-loop-place l = record {
  here : slice_get ((tree_of l.nodes).children l.at l.name) l.place ≡ Some l.child;
  node : IsNodeOf l.nodes l.child;
}
