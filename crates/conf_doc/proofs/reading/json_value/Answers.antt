use Rattle.std.proofs.Common.{ap, sym, true≢false, ◌∙◌}
use Rattle.conf_doc.specs.Reading.{json_answer}
use Rattle.conf_doc.proofs.JsonValues.{json_read, json_unread}
use Rattle.conf_doc.proofs.reading.json_value.Goals as goal

pub returns-in-Ok : goal.returns-in-Ok
returns-in-Ok c = ap json_answer (json_read c.args.bytes.now _ c.in-Ok.ensures.ok.0 c.in-Ok.ensures.ok.1)

pub returns-else-is_memory : goal.returns-else-is_memory
returns-else-is_memory c = ap json_answer (json_unread c.args.bytes.now (c.in-Err.ensures.err (λ want. true≢false (sym (c.is_memory.ensures.1 want) ∙ c.if-is_memory.false))))
