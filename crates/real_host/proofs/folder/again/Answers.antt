use Rattle.std.proofs.Common.{rules, of_calls, arith, suc}
use Rattle.real_host.proofs.folder.again.Goals as goal

-- the call that was just interrupted is one more
pub loop-turn-preserved : goal.loop-turn-preserved
loop-turn-preserved g c =
    let inv = c.loop-turn.invariant in (
      search of_calls,
      (suc inv.1.0, omega (arith, inv.1.1), (c.loop-turn.call, c.call-answer.result, inv.1.2, search rules, search rules)),
    )
