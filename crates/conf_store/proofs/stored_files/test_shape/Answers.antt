use Rattle.std.proofs.Common.{◌≡◌, true, false}
use Rattle.conf_doc.specs.Trees.{document}
use Rattle.conf_store.specs.Shapes.{is_config}
use Rattle.conf_store.proofs.Finds.{shaped_err, shaped_ok}
use Rattle.conf_store.proofs.stored_files.test_shape.Goals as goal

pub returns-then-is_shaped-clause-document : goal.returns-then-is_shaped-clause-document
returns-then-is_shaped-clause-document c =
    let is : is_config (document c.args.tree) ≡ true = cc c.if-is_shaped.ensures in
    shaped_ok c.args.why (document c.args.tree) is

pub returns-clause-document : goal.returns-clause-document
returns-clause-document c =
    let isnt : is_config (document c.args.tree) ≡ false = cc c.if-is_shaped.ensures in
    shaped_err c.args.why (document c.args.tree) isnt
