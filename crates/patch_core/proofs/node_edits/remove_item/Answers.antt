use Rattle.std.proofs.Common.{sym, ap, ◌∙◌}
use Rattle.conf_doc.specs.Document.{list, items_of}
use Rattle.patch_core.specs.declared.errors.FailWhy.TheVariants.{NoTarget}
use Rattle.patch_core.proofs.EditMeasures.{measured_removed_item}
use Rattle.patch_core.proofs.Nodes.{below_item, cut_item, removed_there, listed}
use Rattle.patch_core.proofs.node_edits.remove_item.Goals as goal

pub returns-clause-left : goal.returns-clause-left
returns-clause-left c =
    removed_there c.args.token.now (list (items_of c.args.items)) _ _
    (below_item NoTarget c.args.token.now c.args.items c.in-Ok.i _ c.in-Ok.ensures.named.0 c.remove-out.ensures.taken)
    (cut_item c.args.token.now c.args.items c.in-Ok.i c.in-Ok.ensures.named.0 ∙ ap listed (sym c.remove-out.ensures.rest))

pub returns-clause-taken : goal.returns-clause-taken
returns-clause-taken c = below_item NoTarget c.args.token.now c.args.items c.in-Ok.i _ c.in-Ok.ensures.named.0 c.remove-out.ensures.taken

pub returns-clause-measured : goal.returns-clause-measured
returns-clause-measured c = measured_removed_item _ c.args.items c.remove-out.new.self c.in-Ok.i c.remove-out.ensures.taken c.remove-out.ensures.rest
