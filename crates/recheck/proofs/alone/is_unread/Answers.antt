use Rattle.std.proofs.Common.{arith}
use Rattle.recheck.proofs.SoleEntries.{unread_end, unread_more, unread_start}
use Rattle.recheck.proofs.VerdictWalks.{when_false}
use Rattle.recheck.proofs.alone.is_unread.Goals as goal

pub loop-t-init : goal.loop-t-init
loop-t-init c = unread_start c.args.models.now c.args.config.now c.args.table.now

pub loop-t-preserved : goal.loop-t-preserved
loop-t-preserved c =
    unread_more c.args.models.now c.args.config.now c.args.table.now c.loop-t.t c.name_at.result.now c.loop-t.invariant c.name_at.ensures
    (when_false _ _ c.if-may_read.false c.may_read.ensures)

pub returns : goal.returns
returns c = λ _.
    unread_end c.args.models.now c.args.config.now c.args.table.now c.loop-t.t (omega (arith, c.len-t-end.ensures.len, c.loop-t-test.false)) c.loop-t.invariant
