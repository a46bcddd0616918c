use Rattle.std.proofs.Common.{◌∷◌, ◌++◌, map, ap, ◌∙◌, take_all}
use Rattle.std.proofs.lemmas.Result.{on_ok_weaker}
use Rattle.json.specs.Token.{begin_array}
use Rattle.conf_doc.specs.Document.{items_of, list, text}
use Rattle.conf_doc.specs.Texts.{document_tokens}
use Rattle.conf_doc.specs.Tokens.{opened_items}
use Rattle.conf_doc.proofs.Lists.{take_step}
use Rattle.conf_doc.proofs.Tokens.{item_written, items_written}
use Rattle.conf_doc.proofs.writing.write_texts.Goals as goal

pub loop-text-preserved : goal.loop-text-preserved
loop-text-preserved c =
    item_written text _ _ c.text-item.result _ _ _ (take_step c.items-text-items.result.now _ c.text-item.result c.loop-text-test.true c.text-item.is) c.loop-text.invariant c.in_ok-write_text.ensures

pub returns : goal.returns
returns c =
    let all = c.loop-text.invariant ∙ ap (λ ts. c.args.out.now ++ begin_array ∷ opened_items text ts) (take_all _ c.items-text-items.result.now c.loop-text-test.false) in
    on_ok_weaker c.token-2.result (λ closed. items_written text _ _ _ _ all closed ∙ ap (λ ts. c.args.out.now ++ document_tokens (list (items_of (map text ts)))) c.items-text-items.ensures) c.token-2.ensures.ok
