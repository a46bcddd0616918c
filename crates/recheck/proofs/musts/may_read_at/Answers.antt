use Rattle.recheck.proofs.Readers.{none_last, none_tells, true_holds}
use Rattle.recheck.proofs.musts.may_read_at.Goals as goal

pub returns-then-is_of_last : goal.returns-then-is_of_last
returns-then-is_of_last c =
    none_last c.args.models.now c.args.table.now c.args.verdicts.now c.args.i c.requires.before (true_holds _ _ c.if-is_of_last.true c.is_of_last.ensures)

pub returns : goal.returns
returns c =
    none_tells c.args.models.now c.args.table.now c.args.verdicts.now c.args.i c.index-verdicts-i.result c.as_str.result.now c.may_read.result c.requires.before
    c.requires.within c.as_str.ensures.text c.may_read.ensures
