use Rattle.conf_doc.proofs.ReadTree.{compact_json, compact_line_json}
use Rattle.conf_doc.proofs.laws.compact_reads_back.Goals as goal

pub returns-clause-value : goal.returns-clause-value
returns-clause-value c = compact_json

pub returns-clause-line : goal.returns-clause-line
returns-clause-line c = compact_line_json
