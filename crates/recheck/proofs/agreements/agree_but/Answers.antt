use Rattle.std.proofs.Common.{arith}
use Rattle.recheck.proofs.OneEntry.{agree_all, at_more}
use Rattle.recheck.proofs.agreements.agree_but.Goals as goal

pub loop-i-preserved : goal.loop-i-preserved
loop-i-preserved c =
    at_more c.args.first.now c.args.second.now c.args.table.now c.args.key.now c.loop-i.i c.loop-i.invariant (c.tables_agree.ensures c.if-not-tables_agree.false)

pub returns : goal.returns
returns c = λ _.
    agree_all c.args.first.now c.args.second.now c.args.table.now c.args.key.now c.len-count.ensures.formed c.len.ensures.formed (omega arith)
    (λ i lt. c.loop-i.invariant i (omega (arith, lt)))
