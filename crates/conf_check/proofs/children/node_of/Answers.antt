use Rattle.std.proofs.Common.{◌≡◌, ◌<◌, ◌≤◌, ◌^◌, Some, length, slice_get, ap, sym, ◌∙◌, subst}
use Rattle.conf_check.specs.ConfigTree.{held_nodes, item_node}
use Rattle.conf_check.specs.NodeTrees.{held_of, leaf_nodes}
use Rattle.conf_check.specs.declared.leaves.HeldText.{HeldText}
use Rattle.conf_check.proofs.LeafNodes.{item_at, no_item}
use Rattle.conf_check.proofs.NodeLists.{counted_length}
use Rattle.conf_check.proofs.children.node_of.Goals as goal

pub returns-then-i-len-clause-node : goal.returns-then-i-len-clause-node
returns-then-i-len-clause-node c =
    ap Some c.item_node.ensures
    ∙ item_at c.args.table c.args.key c.args.leaf.leaf (length c.in-Items.texts.now) c.args.i
    (subst (λ n. c.args.i < n) c.len.ensures c.if-i-len.true)
    ∙ ap (λ (h : HeldText). slice_get (held_nodes c.args.table c.args.key c.args.leaf.leaf (held_of h)) c.args.i) (sym c.in-Items.is)

pub returns-then-i-len-clause-fits : goal.returns-then-i-len-clause-fits
returns-then-i-len-clause-fits c =
    let e : length (leaf_nodes c.args.table c.args.key c.args.leaf) ≡ length c.in-Items.texts.now =
    ap (λ (h : HeldText). length (held_nodes c.args.table c.args.key c.args.leaf.leaf (held_of h))) c.in-Items.is
    ∙ counted_length (item_node c.args.table c.args.key c.args.leaf.leaf) 0 (length c.in-Items.texts.now) in
    subst (λ n. n < 2 ^ 64) (c.len.ensures ∙ sym e) c.len.type_inv

pub returns-else-i-len-clause-node : goal.returns-else-i-len-clause-node
returns-else-i-len-clause-node c =
    no_item c.args.table c.args.key c.args.leaf.leaf (length c.in-Items.texts.now) c.args.i
    (subst (λ n. n ≤ c.args.i) c.len.ensures c.if-i-len.false)
    ∙ ap (λ (h : HeldText). slice_get (held_nodes c.args.table c.args.key c.args.leaf.leaf (held_of h)) c.args.i) (sym c.in-Items.is)

pub returns-else-i-len-clause-fits : goal.returns-else-i-len-clause-fits
returns-else-i-len-clause-fits c =
    let e : length (leaf_nodes c.args.table c.args.key c.args.leaf) ≡ length c.in-Items.texts.now =
    ap (λ (h : HeldText). length (held_nodes c.args.table c.args.key c.args.leaf.leaf (held_of h))) c.in-Items.is
    ∙ counted_length (item_node c.args.table c.args.key c.args.leaf.leaf) 0 (length c.in-Items.texts.now) in
    subst (λ n. n < 2 ^ 64) (c.len.ensures ∙ sym e) c.len.type_inv
