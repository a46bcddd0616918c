use Rattle.std.proofs.Common.{◌++◌, ap, ◌∙◌}
use Rattle.json.specs.Layout.{pretty}
use Rattle.conf_doc.specs.Reading.{json}
use Rattle.conf_doc.specs.Texts.{document_tokens, line_feed}
use Rattle.conf_doc.specs.Trees.{document}
use Rattle.conf_doc.proofs.ReadTree.{pretty_line_json, reading_back}
use Rattle.checkpoints.proofs.tree_text.pretty_bytes.Goals as goal

pub returns-clause-text : goal.returns-clause-text
returns-clause-text c =
    let written = c.in_ok-write_tree.ensures ∙ ap (λ ts. ts ++ document_tokens (document c.args.tree.now)) c.new-text.ensures in
    c.in_ok-push.ensures.items ∙ ap (λ b. b ++ line_feed) (c.into_inner-bytes.ensures.layout ∙ ap pretty written)

pub returns-clause-reads_back : goal.returns-clause-reads_back
returns-clause-reads_back c = λ sound shallow.
    let d = document c.args.tree.now in
    let written = c.in_ok-write_tree.ensures ∙ ap (λ ts. ts ++ document_tokens d) c.new-text.ensures in
    let text = c.in_ok-push.ensures.items ∙ ap (λ b. b ++ line_feed) (c.into_inner-bytes.ensures.layout ∙ ap pretty written) in
    reading_back _ d (ap json text ∙ pretty_line_json d sound shallow)
