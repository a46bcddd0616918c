use Rattle.std.proofs.Common.{sym, subst}
use Rattle.std.proofs.lemmas.List.{take_more}
use Rattle.plan_texts.specs.Lines.{HasNoFeed}
use Rattle.plan_texts.proofs.LineLemmas.{no_feed-append}
use Rattle.plan_texts.proofs.lines.split_line.Goals as goal

pub loop-i-preserved : goal.loop-i-preserved
loop-i-preserved c =
    subst HasNoFeed (sym (take_more c.args.text.now c.loop-i.i 0 c.loop-i-test.true))
    (no_feed-append _ _ c.loop-i.invariant (c.if-text-i-eq10.false, tt))
