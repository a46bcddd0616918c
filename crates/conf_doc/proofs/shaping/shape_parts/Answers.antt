use Rattle.std.proofs.Common.{map, Ok, [], ◌∷◌, ◌++◌, ap, sym, ◌∙◌, subst}
use Rattle.std.proofs.lemmas.Result.{err_from_is_err_and}
use Rattle.conf_doc.specs.Document.{members_of}
use Rattle.conf_doc.specs.Shared.{pairs_of}
use Rattle.conf_doc.specs.Stops.{located}
use Rattle.conf_doc.specs.Trees.{named_document}
use Rattle.conf_doc.specs.WellFormed.{AreTexts, Each, IsShaped}
use Rattle.conf_doc.proofs.Lists.{map-append, none_left}
use Rattle.conf_doc.proofs.Shapings.{part_fails, part_found, parts_end, parts_shaped}
use Rattle.conf_doc.proofs.WellFormed.{each_more, texts_more}
use Rattle.conf_doc.proofs.shaping.shape_parts.Goals as goal

pub returns-in_err-pair-clause-answer : goal.returns-in_err-pair-clause-answer
returns-in_err-pair-clause-answer g c =
    let p = err_from_is_err_and c.from_residual-in_err-pair.result c.from_residual-in_err-pair.ensures.1 in
    rw (p.1, p.2) (part_fails g.X.Shaped.shape _ _ _ _ _ _ c.loop-name.invariant.walk _ (ap (λ ms. members_of (map named_document ms)) c.in-Some.ensures.steps.0) c.in_err-pair.ensures.answer)

pub loop-name-preserved : goal.loop-name-preserved
loop-name-preserved g c =
    let ps = pairs_of c.loop-name.pairs.items in
    let pair = c.in_ok-pair.ensures in
    let pushed = ap pairs_of c.in_ok-push.ensures.items ∙ map-append (λ r. r.value) c.loop-name.pairs.items _ ∙ (λ j. ps ++ (pair.named j, c.in_ok-pair.pair.value.1) ∷ []) in record {
      walk = part_found g.X.Shaped.shape _ _ _ _ _ _ c.loop-name.invariant.walk _ _ (ap (λ ms. members_of (map named_document ms)) c.in-Some.ensures.steps.0) pair.answer pushed;
      texts = subst (λ qs. AreTexts (map (λ p. p.0) qs)) (sym pushed) (rw (map-append (λ p. p.0) ps _) (texts_more _ _ c.loop-name.invariant.texts pair.utf8));
      formed = subst (Each g.X.Shaped.IsWell) (sym pushed) (each_more g.X.Shaped.IsWell _ _ c.loop-name.invariant.formed pair.formed);
    }

pub from_shaped-requires : goal.from_shaped-requires
from_shaped-requires g c =
    let all = parts_end g.X.Shaped.shape _ _ _ c.loop-name.invariant.walk (ap (λ ms. members_of (map named_document ms)) (none_left _ _ c.loop-name.name-iterator.rest.ok.0 c.in-None.ensures.steps.0)) in
    parts_shaped g.X.Shaped.shape c.args.members _ c.into_members-name-items.ensures.rising c.loop-name.invariant.texts all

pub returns-clause-answer : goal.returns-clause-answer
returns-clause-answer g c =
    let all = parts_end g.X.Shaped.shape _ _ _ c.loop-name.invariant.walk (ap (λ ms. members_of (map named_document ms)) (none_left _ _ c.loop-name.name-iterator.rest.ok.0 c.in-None.ensures.steps.0)) in
    ap located all ∙ ap Ok (sym c.from_shaped.ensures)

pub returns-clause-formed : goal.returns-clause-formed
returns-clause-formed g c = subst (Each g.X.Shaped.IsWell) (sym c.from_shaped.ensures) c.loop-name.invariant.formed

pub returns-clause-shaped : goal.returns-clause-shaped
returns-clause-shaped g c =
    let all = parts_end g.X.Shaped.shape _ _ _ c.loop-name.invariant.walk (ap (λ ms. members_of (map named_document ms)) (none_left _ _ c.loop-name.name-iterator.rest.ok.0 c.in-None.ensures.steps.0)) in
    subst IsShaped (sym c.from_shaped.ensures) (parts_shaped g.X.Shaped.shape c.args.members _ c.into_members-name-items.ensures.rising c.loop-name.invariant.texts all)
