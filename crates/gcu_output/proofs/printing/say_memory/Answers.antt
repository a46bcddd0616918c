-- One is written `1`.
use Rattle.std.specs.Fmt.{digits}
use Rattle.gcu_output.proofs.printing.say_memory.Goals as goal

pub returns-clause-printed : goal.returns-clause-printed
unfolding digits
returns-clause-printed g c = c.print.ensures.printed

pub returns-clause-time : goal.returns-clause-time
unfolding digits
returns-clause-time g c = c.print.ensures.time
