use Rattle.conf_doc.specs.Trees.{document}
use Rattle.patch_core.specs.Operation.{operations}
use Rattle.conf_store.proofs.ShapePreservation.{patch_keeps}
use Rattle.conf_store.proofs.steps_read.perform_step.Goals as goal

pub test_step-requires : goal.test_step-requires
test_step-requires c = λ kept.
    patch_keeps (operations c.args.patch.now) (document c.args.tree) (document c.in-Ok.tree) c.requires kept c.in-Ok.ensures
