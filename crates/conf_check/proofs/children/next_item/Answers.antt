use Rattle.std.proofs.Common.{◌≤◌, ◌+◌, length, slice_get, ap, sym, ◌∙◌, arith}
use Rattle.conf_check.specs.ConfigTree.{held_nodes}
use Rattle.conf_check.specs.NodeTrees.{held_of}
use Rattle.conf_check.specs.declared.leaves.HeldText.{HeldText}
use Rattle.conf_check.proofs.LeafNodes.{no_item}
use Rattle.conf_check.proofs.children.next_item.Goals as goal

pub returns-else-i-len-clause-next : goal.returns-else-i-len-clause-next
returns-else-i-len-clause-next c =
    let past : length c.in-Items.texts.now ≤ c.args.i + 1 = omega (arith, c.len.ensures, c.if-i-len.false) in
    no_item c.args.table c.args.key c.args.leaf.leaf (length c.in-Items.texts.now) (c.args.i + 1) past
    ∙ ap (λ (h : HeldText). slice_get (held_nodes c.args.table c.args.key c.args.leaf.leaf (held_of h)) (c.args.i + 1)) (sym c.in-Items.is)
