use Rattle.std.proofs.Common.{◌<◌, ◌^◌, List, length, sym, subst, arith}
use Rattle.xpath_part.specs.declared.nodes.Node.{Node}
use Rattle.conf_check.specs.NodeTrees.{keys_in}
use Rattle.conf_check.proofs.EntryNodes.{length_within}
use Rattle.conf_check.proofs.TreeNodes.{children_of_table}
use Rattle.conf_check.proofs.tree_nodes.first_child.Goals as goal

pub returns-then-at-eq-TABLE-clause-fits : goal.returns-then-at-eq-TABLE-clause-fits
returns-then-at-eq-TABLE-clause-fits c =
    let s = c.args.nodes.now in
    let within = length_within s.models.now s.config.now s.known.0 c.args.at.table c.args.name.now 0 (keys_in s c.args.at.table) in
    subst (λ (xs : List Node). length xs < 2 ^ 64) (sym (children_of_table s c.args.at c.args.name.now c.if-at-eq-TABLE.true))
    (omega (arith, within, c.entry_named.ensures.fits))
