use Rattle.std.proofs.Common.{rules, arith}
use Rattle.yang_scope.proofs.FaultLists.{least_of-next}
use Rattle.yang_must.proofs.LeastFaults.{least_of-all}
use Rattle.yang_must.specs.Musts.{shape_faults}
use Rattle.yang_must.proofs.must_faults.note_table.Goals as goal

pub loop-shape-preserved : goal.loop-shape-preserved
loop-shape-preserved c = λ read reads.
    least_of-next (shape_faults read c.args.tree.now c.args.owner.now c.args.table.now) _ _ _ c.shapes-shape-items.result.now c.loop-shape.shape-index c.shape-item.result (search rules) (search rules)
    (c.loop-shape.invariant read reads) (c.in_ok-note_shape.ensures read reads)

pub returns : goal.returns
returns c = λ read reads.
    least_of-all (shape_faults read c.args.tree.now c.args.owner.now c.args.table.now) _ _ c.shapes-shape-items.result.now _ c.loop-shape.shape-index c.shapes-shape-items.ensures (omega arith) (omega arith)
    (c.loop-shape.invariant read reads)
