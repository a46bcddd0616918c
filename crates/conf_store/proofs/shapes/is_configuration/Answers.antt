use Rattle.std.proofs.Common.{◌∙◌, sym}
use Rattle.conf_doc.specs.Trees.{document}
use Rattle.conf_store.proofs.Shaping.{ok_config, tree_shaped}
use Rattle.conf_store.proofs.shapes.is_configuration.Goals as goal

pub returns-clause-tells : goal.returns-clause-tells
returns-clause-tells c = c.is_shaped.ensures ∙ ok_config (document c.args.tree.now)

pub returns-clause-same : goal.returns-clause-same
returns-clause-same c shaped = tree_shaped (document c.args.tree.now) (sym c.is_shaped.ensures ∙ shaped)
