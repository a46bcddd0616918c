use Rattle.std.proofs.Common.{rules, arith}
use Rattle.yang_scope.proofs.FaultLists.{least_of-next}
use Rattle.yang_must.proofs.LeastFaults.{least_of-all}
use Rattle.yang_must.specs.Musts.{container_faults}
use Rattle.yang_must.proofs.must_faults.note_musts.Goals as goal

pub loop-container-preserved : goal.loop-container-preserved
loop-container-preserved c = λ read reads.
    least_of-next (container_faults read c.args.tree.now) _ _ _ c.containers-container-items.result.now c.loop-container.container-index c.container-item.result (search rules) (search rules)
    (c.loop-container.invariant read reads) (c.in_ok-note_container.ensures read reads)

pub returns : goal.returns
returns c = λ read reads.
    least_of-all (container_faults read c.args.tree.now) _ _ c.containers-container-items.result.now _ c.loop-container.container-index c.containers-container-items.ensures (omega arith) (omega arith)
    (c.loop-container.invariant read reads)
