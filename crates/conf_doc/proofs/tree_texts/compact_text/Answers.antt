use Rattle.std.proofs.Common.{◌++◌, ap, ◌∙◌}
use Rattle.json.specs.Print.{print}
use Rattle.serde_json.proofs.Texts.{print-outline}
use Rattle.conf_doc.specs.Texts.{document_tokens, value}
use Rattle.conf_doc.specs.Trees.{document}
use Rattle.conf_doc.proofs.tree_texts.compact_text.Goals as goal

pub returns-clause-text : goal.returns-clause-text
returns-clause-text c =
    let added = c.in_ok-write_tree.ensures.added in
    let before = added.before ∙ c.new-text.ensures.before ∙ c.new.ensures.items in
    let tokens = added.tokens ∙ ap (λ ts. ts ++ document_tokens (document c.args.tree.now)) c.new-text.ensures.tokens in
    c.into_inner.ensures.items ∙ (λ i. before i ++ print (tokens i)) ∙ print-outline (value (document c.args.tree.now))
