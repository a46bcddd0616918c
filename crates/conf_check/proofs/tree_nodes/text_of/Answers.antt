use Rattle.std.proofs.Common.{◌∙◌}
use Rattle.conf_check.proofs.LeafNodes.{text_held, text_unshaped}
use Rattle.conf_check.proofs.tree_nodes.text_of.Goals as goal

pub returns-in-Some : goal.returns-in-Some
returns-in-Some c =
    c.held_text.ensures
    ∙ text_held c.args.nodes.now c.args.at.table c.args.at.key c.in-Some.entry c.in-Some.ensures c.args.at.leaf c.args.at.item c.held_at.result c.held_at.ensures

pub returns-in-None : goal.returns-in-None
returns-in-None c = text_unshaped c.args.nodes.now c.args.at.table c.args.at.key c.in-None.ensures c.args.at.leaf c.args.at.item
