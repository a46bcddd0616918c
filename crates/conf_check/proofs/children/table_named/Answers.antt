use Rattle.std.proofs.Common.{map, sym, subst, arith}
use Rattle.conf_check.specs.ConfigTree.{table_node}
use Rattle.conf_check.specs.NodeTrees.{IsNodeOf}
use Rattle.conf_check.proofs.NamePlaces.{place_holds}
use Rattle.conf_check.proofs.Places.{holder_at}
use Rattle.conf_check.proofs.ShapedEntries.{owner_modelled, table_module}
use Rattle.conf_check.proofs.TreeNodes.{below_is_node}
use Rattle.conf_check.proofs.children.table_named.Goals as goal

pub returns-in-Some-clause-node : goal.returns-in-Some-clause-node
returns-in-Some-clause-node c =
    let s = c.args.nodes.now in
    let name = c.args.name.now in
    let at = place_holds name (map (λ t. t.0) s.config.now) c.in-Some.place (sym c.in-Some.ensures) in
    let held = holder_at s.config.now c.in-Some.place name at in
    let has = table_module s.models.now s.config.now s.known.0 c.in-Some.place (name, held.0) held.1
    (owner_modelled s.models.now name c.args.owner (sym c.if-not-is_owner.ensures)) in
    subst (IsNodeOf s) (sym c.table_node.ensures) (below_is_node s (table_node c.in-Some.place) (omega arith) has)
