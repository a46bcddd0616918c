use Rattle.std.proofs.Common.{◌≡◌, true, take, map}
use Rattle.std.specs.List.{list_all}
use Rattle.patch_core.specs.Operation.{operation_of}
use Rattle.conf_store.specs.Shapes.{keeps_shape}
use Rattle.conf_store.proofs.keeping.keep_shape.Given as goal

abbrev pub invariant-loop-op : goal.invariant-loop-op
invariant-loop-op l = list_all keeps_shape (map operation_of (take l.op-index l.op-items)) ≡ true
