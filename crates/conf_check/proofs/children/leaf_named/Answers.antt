use Rattle.std.proofs.Common.{Option, [], ap, ◌∙◌}
use Rattle.std.specs.Option.{option_map_or}
use Rattle.conf_check.specs.NodeTrees.{leaf_nodes}
use Rattle.conf_check.specs.declared.children.HeldLeaf.{HeldLeaf}
use Rattle.conf_check.proofs.LeafNodes.{leaves_held, leaves_unnamed, leaves_unshaped}
use Rattle.conf_check.proofs.children.leaf_named.Goals as goal

pub returns-in_err-entry : goal.returns-in_err-entry
returns-in_err-entry c =
    ap (λ (o : Option HeldLeaf). option_map_or (leaf_nodes c.args.table c.args.key) o []) c.from_residual.ensures
    ∙ leaves_unshaped c.args.nodes.now c.args.table c.args.key c.in_err-entry.ensures c.args.name.now

pub returns-in_err-leaf : goal.returns-in_err-leaf
returns-in_err-leaf c =
    ap (λ (o : Option HeldLeaf). option_map_or (leaf_nodes c.args.table c.args.key) o []) c.from_residual-in_err-leaf.ensures
    ∙ leaves_unnamed c.args.nodes.now c.args.table c.args.key c.in_ok-entry.entry c.in_ok-entry.ensures c.args.name.now c.in_err-leaf.ensures

pub returns : goal.returns
returns c =
    leaves_held c.args.nodes.now c.args.table c.args.key c.in_ok-entry.entry c.in_ok-entry.ensures c.args.name.now
    c.in_ok-leaf.leaf c.held_at.result c.in_ok-leaf.ensures c.held_at.ensures
