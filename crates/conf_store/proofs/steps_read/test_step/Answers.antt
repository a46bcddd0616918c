use Rattle.std.proofs.Common.{◌≡◌, true}
use Rattle.std.specs.List.{list_all}
use Rattle.conf_doc.specs.Trees.{document}
use Rattle.patch_core.specs.Operation.{operations}
use Rattle.conf_store.specs.Shapes.{keeps_shape}
use Rattle.conf_store.specs.declared.errors.StoredWhy.TheVariants.{BadStep}
use Rattle.conf_store.proofs.Finds.{shaped_ok}
use Rattle.conf_store.proofs.steps_read.test_step.Goals as goal

pub returns-then-keep_shape-clause-document : goal.returns-then-keep_shape-clause-document
returns-then-keep_shape-clause-document c =
    let kept : list_all keeps_shape (operations c.args.patch.now) ≡ true = cc c.if-keep_shape.ensures in
    shaped_ok (BadStep c.args.n) (document c.args.left) (c.requires kept)
