use Rattle.ref_index.proofs.Moves.{takes_step}
use Rattle.ref_index.proofs.indexes.take_all.Goals as goal

pub loop-at-preserved : goal.loop-at-preserved
loop-at-preserved c =
    takes_step c.args.wants.now c.loop-at.at-index _ c.args.places.now c.loop-at.places c.take.new.self c.loop-at-test.true c.loop-at.invariant c.take.ensures
