use Rattle.std.proofs.Common.{arith}
use Rattle.recheck.proofs.EntryCounts.{number_end, number_more}
use Rattle.recheck.proofs.rule.count_entries.Goals as goal

pub loop-i-preserved : goal.loop-i-preserved
loop-i-preserved c =
    number_more c.args.config.now c.loop-i.i c.part_at.result.now c.loop-i.count c.len.result c.saturating_add-count.result c.part_at.ensures.part
    c.loop-i.invariant c.len.ensures.len c.saturating_add-count.ensures

pub returns : goal.returns
returns c =
    number_end c.args.config.now c.loop-i.i c.loop-i.count (omega (arith, c.len-i-end.ensures.len, c.loop-i-test.false)) c.loop-i.invariant
