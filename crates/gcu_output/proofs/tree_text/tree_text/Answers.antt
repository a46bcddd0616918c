use Rattle.std.proofs.Common.{◌++◌, ap, ◌∙◌}
use Rattle.json.specs.Layout.{pretty}
use Rattle.conf_doc.specs.Texts.{document_tokens, line_feed}
use Rattle.conf_doc.specs.Trees.{document}
use Rattle.gcu_output.proofs.tree_text.tree_text.Goals as goal

pub returns : goal.returns
returns c =
    let written = c.in_ok-write_tree.ensures ∙ ap (λ ts. ts ++ document_tokens (document c.args.tree.now))
    c.new-text.ensures in
    c.in_ok-push.ensures.items ∙ ap (λ b. b ++ line_feed) (c.into_inner-bytes.ensures.layout ∙ ap pretty written)
