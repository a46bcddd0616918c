use Rattle.ref_index.proofs.Moves.{on_err_holds, puts_step, puts_stop}
use Rattle.ref_index.proofs.indexes.put_all.Goals as goal

pub returns-in_err-put-clause-err : goal.returns-in_err-put-clause-err
returns-in_err-put-clause-err c =
    on_err_holds c.from_residual.result
    (puts_stop c.loop-at.at-index c.args.wants.now c.args.places.now c.loop-at.places c.put.new.self c.loop-at.invariant c.in_err-put.ensures.err)

pub loop-at-preserved : goal.loop-at-preserved
loop-at-preserved c =
    puts_step c.args.wants.now c.loop-at.at-index _ c.args.places.now c.loop-at.places c.put.new.self c.loop-at-test.true c.loop-at.invariant c.in_ok-put.ensures.ok
