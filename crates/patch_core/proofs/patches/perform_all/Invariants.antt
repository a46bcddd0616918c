use Rattle.std.proofs.Common.{◌≡◌, map, drop}
use Rattle.conf_doc.specs.Trees.{document}
use Rattle.patch_core.specs.Apply.{in_order, result_of}
use Rattle.patch_core.specs.Operation.{operation_of}
use Rattle.patch_core.proofs.patches.perform_all.Given as goal

abbrev pub invariant-loop-index : goal.invariant-loop-index
invariant-loop-index l = in_order result_of l.index (map operation_of (drop l.index l.ops)) (document l.left) ≡ in_order result_of 0 (map operation_of l.ops) (document l.fn.tree)
