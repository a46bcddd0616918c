use Rattle.conf_check.specs.NodeTrees.{row_of_entry}
use Rattle.conf_check.proofs.Breaches.{entry_first}
use Rattle.conf_check.proofs.EntryFaults.{no_shape_first}
use Rattle.conf_check.proofs.ShapedEntries.{row_module}
use Rattle.conf_check.proofs.checking.first_of_entry.Goals as goal

pub first_of_shape-requires : goal.first_of_shape-requires
first_of_shape-requires c =
    let s = c.args.nodes.now in
    row_module s.models.now s.config.now s.known.0 c.args.table c.args.key (row_of_entry c.in-Some.entry) (c.in-Some.ensures).at

pub returns-in-Some : goal.returns-in-Some
returns-in-Some c =
    entry_first c.args.nodes.now.models.now c.args.nodes.now.config.now c.args.table c.args.key c.in-Some.entry c.first_of_shape.result
    c.in-Some.ensures c.first_of_shape.ensures

pub returns-in-None : goal.returns-in-None
returns-in-None c = λ row at.
    no_shape_first c.args.nodes.now.models.now c.args.nodes.now.config.now c.args.table c.args.key row (c.in-None.ensures row at)
