use Rattle.std.proofs.Common.{◌≡◌, false, map, sym, ap, ◌∙◌}
use Rattle.std.specs.List.{list_all}
use Rattle.patch_core.specs.Operation.{operation_of}
use Rattle.conf_store.specs.Shapes.{keeps_shape}
use Rattle.conf_store.proofs.ShapeWalks.{fails_at, get_at, map_at}
use Rattle.conf_store.proofs.keeping.keep_shape.Goals as goal

pub returns-then-not-keeps_shape : goal.returns-then-not-keeps_shape
returns-then-not-keeps_shape c =
    let isnt : keeps_shape (operation_of c.op-item.result) ≡ false = cc c.if-not-keeps_shape.ensures in
    let at = get_at c.items-op-items.result.now c.loop-op.op-index c.op-item.result c.loop-op-test.true c.op-item.is in
    sym (ap (λ ops. list_all keeps_shape (map operation_of ops)) (sym c.items-op-items.ensures)
    ∙ fails_at keeps_shape (map operation_of c.items-op-items.result.now) c.loop-op.op-index (operation_of c.op-item.result)
    (map_at operation_of c.items-op-items.result.now c.loop-op.op-index c.op-item.result at) isnt)
