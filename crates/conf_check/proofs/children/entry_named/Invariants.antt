use Rattle.std.proofs.Common.{◌≡◌, slice_get}
use Rattle.conf_check.specs.NodeTrees.{entries_behind}
use Rattle.conf_check.proofs.children.entry_named.Given as goal

abbrev pub invariant-loop-key : goal.invariant-loop-key
invariant-loop-key l =
    slice_get (entries_behind l.nodes l.table l.name l.fn.from) 0 ≡ slice_get (entries_behind l.nodes l.table l.name l.key) 0
