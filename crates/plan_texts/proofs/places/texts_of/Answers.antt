use Rattle.std.proofs.Common.{◌++◌, ◌∷◌, [], map, ap, sym, subst, ◌∙◌}
use Rattle.std.proofs.lemmas.List.{map-append}
use Rattle.conf_doc.specs.WellFormed.{AreTexts}
use Rattle.conf_doc.proofs.Lists.{take_step}
use Rattle.conf_doc.proofs.WellFormed.{texts_more}
use Rattle.plan_texts.proofs.places.texts_of.Goals as goal

pub loop-name-preserved : goal.loop-name-preserved
loop-name-preserved c =
    let names = c.args.names.now in
    let step = take_step names _ c.name-item.result c.loop-name-test.true c.name-item.is in record {
      same = ap (map (λ t. t.now)) c.in_ok-push.ensures.items ∙ map-append (λ t. t.now) c.loop-name.texts.items (c.as_str.result ∷ [])
          ∙ (λ i. c.loop-name.invariant.same i ++ c.as_str.ensures.text i ∷ []) ∙ sym step;
      formed = subst AreTexts (sym step) (texts_more _ _ c.loop-name.invariant.formed c.as_str.ensures.utf8);
    }
