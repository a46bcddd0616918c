use Rattle.gcu_words.proofs.NamedLines.{result_named}
use Rattle.gcu_words.proofs.scripts.read_script.Goals as goal

pub returns-clause-named : goal.returns-clause-named
returns-clause-named c = result_named c.args.bytes.now c.read_lines.result c.read_lines.ensures.script
