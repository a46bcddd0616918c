use Rattle.xpath_part.proofs.Spelling.{ok_spells, bad_spells_nothing}
use Rattle.xpath_part.proofs.expressions.Expr.read.Goals as goal

pub returns-clause-spelled : goal.returns-clause-spelled
returns-clause-spelled c = ok_spells c.args.text.now c.read_text.result c.read_text.ensures.ok

pub returns-clause-unspelled : goal.returns-clause-unspelled
returns-clause-unspelled c = bad_spells_nothing c.args.text.now c.read_text.result c.read_text.ensures.bad
