use Rattle.conf_check.proofs.LeafNodes.{leaf_last}
use Rattle.conf_check.proofs.children.next_leaf.Goals as goal

pub returns-then-leaf-eq-LEAF-clause-next : goal.returns-then-leaf-eq-LEAF-clause-next
returns-then-leaf-eq-LEAF-clause-next c =
    leaf_last c.args.nodes.now c.args.table c.args.key c.args.name.now c.args.i c.args.leaf c.if-leaf-eq-LEAF.true c.requires
