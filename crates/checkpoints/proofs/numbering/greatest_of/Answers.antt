use Rattle.std.proofs.Common.{sym, ap, ◌∙◌, map, take, take_all}
use Rattle.conf_doc.proofs.Lists.{take_step}
use Rattle.checkpoints.specs.Answers.{numbered_view}
use Rattle.checkpoints.specs.Numbers.{greatest}
use Rattle.checkpoints.specs.Reads.{greater}
use Rattle.checkpoints.proofs.NumberListings.{greatest_more}
use Rattle.checkpoints.proofs.numbering.greatest_of.Goals as goal

pub loop-numbered-preserved : goal.loop-numbered-preserved
loop-numbered-preserved c =
    let x = c.numbered-item.result in
    let more = take_step c.args.all.now _ x c.loop-numbered-test.true c.numbered-item.is in
    c.greatest_with-greatest.ensures ∙ ap (λ m. greater m x.number) c.loop-numbered.invariant
    ∙ sym (ap (λ ns. greatest (map numbered_view ns)) more ∙ greatest_more (take c.loop-numbered.numbered-index c.args.all.now) x)

pub returns : goal.returns
returns c =
    c.loop-numbered.invariant ∙ ap (λ ns. greatest (map numbered_view ns)) (take_all _ c.args.all.now c.loop-numbered-test.false)
