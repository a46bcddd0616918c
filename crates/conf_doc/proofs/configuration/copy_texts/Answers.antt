use Rattle.std.proofs.Common.{◌++◌, ◌∷◌, [], sym, subst, ◌∙◌, take_all}
use Rattle.conf_doc.specs.WellFormed.{AreTexts}
use Rattle.conf_doc.proofs.Lists.{take_step}
use Rattle.conf_doc.proofs.WellFormed.{texts_more}
use Rattle.conf_doc.proofs.configuration.copy_texts.Goals as goal

pub loop-text-preserved : goal.loop-text-preserved
loop-text-preserved c =
    let pushed = c.in_ok-push_copy.ensures in
    let inv = c.loop-text.invariant in record {
      same =
          pushed.ok ∙ (λ i. inv.same i ++ c.text-item.result ∷ [])
          ∙ sym (take_step c.items-text-items.result.now _ c.text-item.result c.loop-text-test.true c.text-item.is);
      formed = subst AreTexts (sym pushed.ok) (texts_more _ _ inv.formed pushed.utf8);
    }

pub returns-clause-copy : goal.returns-clause-copy
returns-clause-copy c = c.loop-text.invariant.same ∙ take_all _ c.items-text-items.result.now c.loop-text-test.false ∙ c.items-text-items.ensures

pub returns-clause-formed : goal.returns-clause-formed
returns-clause-formed c = c.loop-text.invariant.formed
