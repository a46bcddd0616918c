use Rattle.std.proofs.Common.{◌++◌, ap, ◌∙◌}
use Rattle.conf_doc.specs.Reading.{json}
use Rattle.conf_doc.specs.Texts.{line_feed}
use Rattle.conf_doc.specs.Trees.{document}
use Rattle.conf_doc.proofs.ReadTree.{compact_json, compact_line_json}
use Rattle.conf_doc.proofs.writing.tree_bytes.Goals as goal

pub returns-clause-reads_back : goal.returns-clause-reads_back
returns-clause-reads_back c shallow = ap json c.in_ok-bytes.ensures.text ∙ compact_json (document c.args.tree.now) c.in_ok-bytes.ensures.sound shallow

pub returns-clause-line : goal.returns-clause-line
returns-clause-line c shallow = ap (λ b. json (b ++ line_feed)) c.in_ok-bytes.ensures.text ∙ compact_line_json (document c.args.tree.now) c.in_ok-bytes.ensures.sound shallow
