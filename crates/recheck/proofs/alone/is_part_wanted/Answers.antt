use Rattle.recheck.proofs.SoleEntries.{text_unwanted}
use Rattle.recheck.proofs.alone.is_part_wanted.Goals as goal

pub returns-in-Ok : goal.returns-in-Ok
returns-in-Ok c =
    text_unwanted c.args.index.now.models c.args.index.now.config c.args.table.now c.args.shape c.in-Ok.part c.args.part c.args.text.now
    c.referrers.result.now c.is_empty.result c.in-Ok.ensures.1 c.referrers.ensures c.is_empty.ensures
