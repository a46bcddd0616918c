use Rattle.std.proofs.Common.{sym, subst}
use Rattle.host_core.specs.Answers.{Gives}
use Rattle.conf_doc.specs.Reading.{json, json_checked, read_fault}
use Rattle.conf_doc.specs.Trees.{document}
use Rattle.conf_doc.proofs.JsonValues.{answered, unanswered}
use Rattle.conf_doc.proofs.reading.read_tree.Goals as goal

pub returns-in-Ok : goal.returns-in-Ok
returns-in-Ok c = subst (λ o. Gives document read_fault c.tree_of_value.result (json_checked o)) (sym (answered (json c.args.bytes.now) _ c.in-Ok.ensures)) c.tree_of_value.ensures

pub returns-in-Err : goal.returns-in-Err
returns-in-Err c = unanswered (json c.args.bytes.now) c.in-Err.error c.in-Err.ensures
