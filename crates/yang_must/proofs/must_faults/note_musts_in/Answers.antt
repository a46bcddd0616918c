use Rattle.std.proofs.Common.{rules, arith}
use Rattle.yang_text.specs.Statements.{declaration}
use Rattle.yang_scope.proofs.FaultLists.{least_of-next, least_of-block}
use Rattle.yang_must.specs.Musts.{if_must}
use Rattle.yang_must.specs.SpotRefs.{spot_at}
use Rattle.yang_must.proofs.must_faults.note_musts_in.Goals as goal

pub loop-inner-preserved : goal.loop-inner-preserved
loop-inner-preserved c = λ read reads.
    least_of-next (λ s. if_must read c.args.tree.now c.args.owner.now (spot_at c.args.spot.now) (declaration s)) _ _ _ c.items-inner-items.result.now c.loop-inner.inner-index c.inner-item.result (search rules) (search rules)
    (c.loop-inner.invariant read reads) (c.in_ok-note_if_must.ensures read reads)

pub returns : goal.returns
returns c = λ read reads.
    least_of-block (if_must read c.args.tree.now c.args.owner.now (spot_at c.args.spot.now)) _ _ c.args.statement.now c.items-inner-items.result.now c.loop-inner.inner-index c.items-inner-items.ensures (omega arith) (omega arith)
    (c.loop-inner.invariant read reads)
