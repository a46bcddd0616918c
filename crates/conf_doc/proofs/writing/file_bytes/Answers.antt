use Rattle.std.proofs.Common.{◌++◌, ap, ◌∙◌}
use Rattle.json.specs.Layout.{pretty}
use Rattle.conf_doc.specs.Configuration.{tree}
use Rattle.conf_doc.specs.Reading.{json}
use Rattle.conf_doc.specs.Shaping.{shape_checked}
use Rattle.conf_doc.specs.Texts.{document_tokens, line_feed}
use Rattle.conf_doc.proofs.ReadTree.{file_json, reading_back}
use Rattle.conf_doc.proofs.RoundTrip.{config_back}
use Rattle.conf_doc.proofs.writing.file_bytes.Goals as goal

pub returns-clause-text : goal.returns-clause-text
returns-clause-text c =
    let written = c.in_ok-write.ensures ∙ ap (λ ts. ts ++ document_tokens (tree c.args.config.now)) c.new-text.ensures in
    c.in_ok-push.ensures.items ∙ ap (λ b. b ++ line_feed) (c.into_inner-bytes.ensures.layout ∙ ap pretty written)

pub returns-clause-reads_back : goal.returns-clause-reads_back
returns-clause-reads_back c =
    let written = c.in_ok-write.ensures ∙ ap (λ ts. ts ++ document_tokens (tree c.args.config.now)) c.new-text.ensures in
    let text = c.in_ok-push.ensures.items ∙ ap (λ b. b ++ line_feed) (c.into_inner-bytes.ensures.layout ∙ ap pretty written) in
    reading_back _ (tree c.args.config.now) (ap json text ∙ file_json c.args.config.now c.len.ensures.formed)

pub returns-clause-shapes_back : goal.returns-clause-shapes_back
returns-clause-shapes_back c = ap shape_checked (config_back c.args.config.now c.len.ensures.formed)

pub returns-in_err-write-clause-shapes_back : goal.returns-in_err-write-clause-shapes_back
returns-in_err-write-clause-shapes_back c = ap shape_checked (config_back c.args.config.now c.len.ensures.formed)

pub returns-in_err-push-clause-shapes_back : goal.returns-in_err-push-clause-shapes_back
returns-in_err-push-clause-shapes_back c = ap shape_checked (config_back c.args.config.now c.len.ensures.formed)
