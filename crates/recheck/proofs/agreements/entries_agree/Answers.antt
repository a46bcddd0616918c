use Rattle.std.proofs.Common.{arith}
use Rattle.recheck.proofs.OneEntry.{same_but}
use Rattle.recheck.proofs.agreements.entries_agree.Goals as goal

pub returns : goal.returns
returns c = λ t.
    same_but c.args.first.now c.args.second.now c.args.key.now c.first_from-start.result c.entry_after-left.result c.entry_after-right.result _
    c.len-ones.ensures.formed.shaped.rising c.len-others.ensures.formed.shaped.rising (c.are_same.ensures c.if-not-are_same.false) (c.are_same-2.ensures t)
    (omega arith) (omega arith) c.entry_after-left.ensures.passed c.entry_after-right.ensures.passed
