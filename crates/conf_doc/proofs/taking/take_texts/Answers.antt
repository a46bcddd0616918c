use Rattle.std.proofs.Common.{◌++◌, map, sym, ap, ◌∙◌, append-nil}
use Rattle.conf_doc.specs.Document.{text}
use Rattle.conf_doc.proofs.Lists.{none_left, one_moved}
use Rattle.conf_doc.proofs.taking.take_texts.Goals as goal

pub loop-text-preserved : goal.loop-text-preserved
loop-text-preserved c = one_moved text _ _ _ _ _ _ c.loop-text.invariant c.in-Some.ensures.steps.0 c.in_ok-push.ensures.ok

pub returns : goal.returns
returns c =
    let none = none_left _ _ c.loop-text.text-iterator.rest.ok.0 c.in-None.ensures.steps.0 in
    sym (append-nil _) ∙ ap (λ ts. c.loop-text.items ++ map text ts) (sym none) ∙ c.loop-text.invariant
