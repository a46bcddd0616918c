use Rattle.std.proofs.Common.{subst, sym, refl, take_all, arith}
use Rattle.conf_doc.specs.ListHolders.{IsText}
use Rattle.conf_doc.specs.WellFormed.{Each}
use Rattle.conf_doc.proofs.Lists.{take_more}
use Rattle.conf_doc.proofs.WellFormed.{each_more}
use Rattle.conf_doc.proofs.list_holders.holds_no_list.Goals as goal

pub loop-i-preserved : goal.loop-i-preserved
loop-i-preserved c =
    let more = take_more c.args.entry.now c.loop-i.i _ c.pair_at.ensures.pair in
    subst (Each IsText) (sym more) (each_more IsText _ _ c.loop-i.invariant (c.if-not-is_text.ensures refl))

pub returns : goal.returns
returns c = λ yes. subst (Each IsText) (take_all c.loop-i.i c.args.entry.now (omega (arith, c.len-i-end.ensures.len, c.loop-i-test.false))) c.loop-i.invariant
