use Rattle.recheck.proofs.Readers.{none_all}
use Rattle.recheck.proofs.musts.one_may_read.Goals as goal

pub returns : goal.returns
returns c = none_all c.args.models.now c.args.table.now c.args.verdicts.now c.loop-i.i c.loop-i-test.false c.loop-i.invariant
