use Rattle.std.proofs.Common.{◌≡◌, Some, subst, sym}
use Rattle.conf_check.specs.NodeTrees.{row_of_entry}
use Rattle.conf_check.specs.Rows.{row_at}
use Rattle.conf_check.proofs.Breaches.{entry_first}
use Rattle.conf_check.proofs.EntryFaults.{broken_as, no_shape_first, without_musts}
use Rattle.conf_check.proofs.ShapedEntries.{row_module}
use Rattle.conf_check.proofs.checking.first_at.Goals as goal

pub first_of_shape-requires : goal.first_of_shape-requires
first_of_shape-requires c =
    let s = c.nodes_of.result in
    let row = row_of_entry c.in-Some.entry in
    row_module s.models.now s.config.now s.known.0 c.args.table c.args.key row
    (subst (λ z. row_at s.models.now z c.args.table c.args.key ≡ Some row) (sym c.nodes_of.ensures.config)
    (subst (λ z. row_at z c.args.config.now c.args.table c.args.key ≡ Some row) (sym c.nodes_of.ensures.models) (c.in-Some.ensures).at))

pub returns-then-is_empty : goal.returns-then-is_empty
returns-then-is_empty c =
    entry_first c.args.models.now c.args.config.now c.args.table c.args.key c.in-Some.entry c.first_beside_musts.result c.in-Some.ensures
    (without_musts c.args.models.now c.args.config.now c.args.table c.args.key (row_of_entry c.in-Some.entry) c.in-Some.entry.shape.now
    c.first_beside_musts.result (c.is_empty.ensures.0 c.if-is_empty.true) (c.first_beside_musts.ensures c.args.table c.args.key))

pub returns-else-is_empty : goal.returns-else-is_empty
returns-else-is_empty c =
    entry_first c.args.models.now c.args.config.now c.args.table c.args.key c.in-Some.entry c.first_of_shape.result c.in-Some.ensures
    (broken_as c.nodes_of.result.models.now c.args.models.now c.nodes_of.result.config.now c.args.config.now c.args.table c.args.key
    (row_of_entry c.in-Some.entry) c.in-Some.entry.shape.now c.first_of_shape.result
    c.nodes_of.ensures.models c.nodes_of.ensures.config c.first_of_shape.ensures)

pub returns-in-None : goal.returns-in-None
returns-in-None c = λ row at.
    no_shape_first c.args.models.now c.args.config.now c.args.table c.args.key row (c.in-None.ensures row at)
