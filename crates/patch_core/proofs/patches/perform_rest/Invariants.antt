use Rattle.std.proofs.Common.{◌≡◌, ◌+◌, map, drop}
use Rattle.conf_doc.specs.Trees.{document}
use Rattle.patch_core.specs.Apply.{in_order, result_within}
use Rattle.patch_core.specs.Operation.{operation_of}
use Rattle.patch_core.proofs.patches.perform_rest.Given as goal

abbrev pub invariant-loop-i : goal.invariant-loop-i
invariant-loop-i l = in_order result_within (l.i + 1) (map operation_of (drop l.i l.ops)) (document l.before.tree) ≡ in_order result_within 1 (map operation_of l.ops) (document l.fn.first.tree)
