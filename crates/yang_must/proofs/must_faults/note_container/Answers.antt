use Rattle.std.proofs.Common.{rules, arith}
use Rattle.yang_scope.proofs.FaultLists.{least_of-next}
use Rattle.yang_must.proofs.LeastFaults.{least_of-all}
use Rattle.yang_must.specs.Musts.{table_faults}
use Rattle.yang_must.proofs.must_faults.note_container.Goals as goal

pub loop-table-preserved : goal.loop-table-preserved
loop-table-preserved c = λ read reads.
    least_of-next (table_faults read c.args.tree.now c.args.owner.now) _ _ _ c.tables-table-items.result.now c.loop-table.table-index c.table-item.result (search rules) (search rules)
    (c.loop-table.invariant read reads) (c.in_ok-note_table.ensures read reads)

pub returns : goal.returns
returns c = λ read reads.
    least_of-all (table_faults read c.args.tree.now c.args.owner.now) _ _ c.tables-table-items.result.now _ c.loop-table.table-index c.tables-table-items.ensures (omega arith) (omega arith)
    (c.loop-table.invariant read reads)
