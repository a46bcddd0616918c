use Rattle.std.proofs.Common.{subst, sym, refl, take_all, arith}
use Rattle.conf_doc.specs.ListHolders.{HasNoList}
use Rattle.conf_doc.specs.WellFormed.{Each}
use Rattle.conf_doc.proofs.Lists.{take_more}
use Rattle.conf_doc.proofs.WellFormed.{each_more}
use Rattle.conf_doc.proofs.list_holders.hold_no_list.Goals as goal

pub loop-i-preserved : goal.loop-i-preserved
loop-i-preserved c =
    let more = take_more c.args.list.now c.loop-i.i c.pair_at.result.now c.pair_at.ensures in
    subst (Each HasNoList) (sym more) (each_more HasNoList _ _ c.loop-i.invariant (c.if-not-holds_no_list.ensures refl))

pub returns : goal.returns
returns c = λ yes. subst (Each HasNoList) (take_all c.loop-i.i c.args.list.now (omega (arith, c.len-i-end.ensures.len, c.loop-i-test.false))) c.loop-i.invariant
