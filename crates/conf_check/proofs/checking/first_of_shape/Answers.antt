use Rattle.conf_check.specs.NodeTrees.{row_of_entry}
use Rattle.conf_check.proofs.EntryFaults.{must_is_first, nothing_first}
use Rattle.conf_check.proofs.checking.first_of_shape.Goals as goal

pub returns-in-Some : goal.returns-in-Some
returns-in-Some c = c.in-Some.ensures c.args.table c.args.key

pub returns-in-Some-first_false_must : goal.returns-in-Some-first_false_must
returns-in-Some-first_false_must c =
    must_is_first c.args.nodes.now.models.now c.args.nodes.now.config.now c.args.table c.args.key (row_of_entry c.args.entry.now) c.args.entry.now.shape.now
    c.in-Some-first_false_must.field (c.in_default.ensures c.args.table c.args.key) c.in-Some-first_false_must.ensures

pub returns-in-None : goal.returns-in-None
returns-in-None c =
    nothing_first c.args.nodes.now.models.now c.args.nodes.now.config.now c.args.table c.args.key (row_of_entry c.args.entry.now) c.args.entry.now.shape.now
    (c.in_default.ensures c.args.table c.args.key) c.in-None.ensures
