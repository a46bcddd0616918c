use Rattle.std.specs.Prelude.{◌≡◌, ◌≤◌, [], ◌∷◌}
use Rattle.std.proofs.Common.{ap, arith, ◌∙◌}
use Rattle.conf_doc.specs.Document.{deepest, depth}
use Rattle.conf_doc.specs.Reading.{json}
use Rattle.conf_doc.specs.Trees.{document}
use Rattle.patch_core.specs.Operation.{operation_of}
use Rattle.patch_core.specs.Writing.{patch_document}
use Rattle.patch_core.proofs.PatchReadings.{depth-step, patch-value, some_value}
use Rattle.patch_core.proofs.writing.step_bytes.Goals as goal

pub returns-clause-reads_back : goal.returns-clause-reads_back
returns-clause-reads_back c = λ low.
    let tree : document c.in_ok-tree.tree ≡ patch_document (operation_of c.args.op.now ∷ []) = c.in_ok-tree.ensures in
    let fits : depth (document c.in_ok-tree.tree) ≤ deepest = omega (arith, ap depth tree, depth-step (operation_of c.args.op.now) low) in
    patch-value _ (operation_of c.args.op.now ∷ []) (ap json c.in_ok-push.ensures.items ∙ c.in_ok-bytes.ensures.line fits ∙ ap some_value tree)
