use Rattle.std.proofs.Common.{map, ap, sym, subst}
use Rattle.std.proofs.lemmas.Result.{err_from_is_err_and}
use Rattle.conf_doc.specs.Document.{items_of}
use Rattle.conf_doc.specs.Trees.{document}
use Rattle.conf_doc.specs.WellFormed.{AreTexts}
use Rattle.conf_doc.proofs.Lists.{none_left}
use Rattle.conf_doc.proofs.Shapings.{text_fails, text_found, texts_end}
use Rattle.conf_doc.proofs.WellFormed.{texts_more}
use Rattle.conf_doc.proofs.shaping.shape_texts.Goals as goal

pub returns-in_err-text-clause-answer : goal.returns-in_err-text-clause-answer
returns-in_err-text-clause-answer c =
    let p = err_from_is_err_and c.from_residual.result c.from_residual.ensures.1 in
    rw (p.1, p.2) (text_fails _ _ _ _ _ _ c.loop-item.invariant.walk _ (ap (λ ts. items_of (map document ts)) c.in-Some.ensures.steps.0) c.len.ensures c.in_err-text.ensures.answer)

pub loop-item-preserved : goal.loop-item-preserved
loop-item-preserved c = record {
  walk = text_found _ _ _ _ _ _ c.loop-item.invariant.walk _ _ (ap (λ ts. items_of (map document ts)) c.in-Some.ensures.steps.0) c.len.ensures c.in_ok-text.ensures.answer c.in_ok-push.ensures.ok;
  formed = subst AreTexts (sym c.in_ok-push.ensures.ok) (texts_more _ _ c.loop-item.invariant.formed c.in_ok-text.ensures.formed);
}

pub returns-clause-answer : goal.returns-clause-answer
returns-clause-answer c = texts_end _ _ _ c.loop-item.invariant.walk (ap (λ ts. items_of (map document ts)) (none_left _ _ c.loop-item.item-iterator.rest.ok.0 c.in-None.ensures.steps.0))

pub returns-clause-formed : goal.returns-clause-formed
returns-clause-formed c = c.loop-item.invariant.formed
