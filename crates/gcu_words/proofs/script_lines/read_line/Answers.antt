use Rattle.gcu_words.proofs.ScriptLemmas.{line_is, no_line_is}
use Rattle.gcu_words.proofs.script_lines.read_line.Goals as goal

pub returns-in-Ok : goal.returns-in-Ok
returns-in-Ok c = line_is c.line_in.result c.in-Ok.text.now c.args.bytes.now c.in-Ok.ensures.cases.0 c.in-Ok.ensures.cases.1 c.line_in.ensures

pub returns-in-Err : goal.returns-in-Err
returns-in-Err c = no_line_is c.args.bytes.now c.in-Err.ensures.cases.0
