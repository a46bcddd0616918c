use Rattle.std.proofs.Common.{◌∙◌}
use Rattle.operators.proofs.CommitMoves.{move_next}
use Rattle.operators.proofs.commits.moves_of.Goals as goal

pub loop-k-preserved : goal.loop-k-preserved
loop-k-preserved c =
    c.in_ok-push.ensures.ok
    ∙ move_next c.args.commits.now c.loop-k.k c.at.result.now c.in_ok-copy.field-0 c.loop-k.plan c.at.ensures
    c.in_ok-copy.ensures c.loop-k.invariant
