use Rattle.std.proofs.Common.{sym, ap, ◌∙◌}
use Rattle.conf_doc.specs.Document.{list, items_of}
use Rattle.conf_doc.specs.Trees.{document}
use Rattle.patch_core.specs.declared.errors.FailWhy.TheVariants.{NoTarget}
use Rattle.patch_core.proofs.EditMeasures.{measured_replaced_item}
use Rattle.patch_core.proofs.Nodes.{below_item, with_below_item, replaced_there, listed}
use Rattle.patch_core.proofs.node_edits.replace_item.Goals as goal

pub returns-clause-left : goal.returns-clause-left
returns-clause-left c =
    replaced_there c.args.token.now (document c.args.value) (list (items_of c.args.items)) _ _
    (below_item NoTarget c.args.token.now c.args.items c.in-Ok.i _ c.in-Ok.ensures.named.0 c.replace-out.ensures.taken)
    (with_below_item c.args.token.now (document c.args.value) c.args.items c.in-Ok.i c.in-Ok.ensures.named.0 ∙ ap listed (sym c.replace-out.ensures.put))

pub returns-clause-taken : goal.returns-clause-taken
returns-clause-taken c = below_item NoTarget c.args.token.now c.args.items c.in-Ok.i _ c.in-Ok.ensures.named.0 c.replace-out.ensures.taken

pub returns-clause-measured : goal.returns-clause-measured
returns-clause-measured c = measured_replaced_item c.args.value _ c.args.items c.replace-out.new.self c.in-Ok.i c.replace-out.ensures.taken c.replace-out.ensures.put
