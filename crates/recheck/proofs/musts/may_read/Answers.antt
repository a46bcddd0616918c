use Rattle.recheck.proofs.Readers.{readers_end, readers_more, readers_start}
use Rattle.recheck.proofs.musts.may_read.Goals as goal

pub loop-place-init : goal.loop-place-init
loop-place-init c = readers_start c.args.models.now c.args.name.now c.args.table.now

pub loop-place-preserved : goal.loop-place-preserved
loop-place-preserved c =
    readers_more c.args.models.now c.args.name.now c.args.table.now c.loop-place.place c.loop-place.invariant c.in-Some.shape.now c.in-Some.ensures c.has_reader.result
    c.has_reader.ensures c.if-has_reader.false

pub returns-in_default : goal.returns-in_default
returns-in_default c = readers_end c.args.models.now c.args.name.now c.args.table.now c.loop-place.place c.loop-place.invariant c.in_default.ensures
