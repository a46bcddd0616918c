use Rattle.recheck.proofs.Readers.{no_reader, no_readers, no_shape, reads_by}
use Rattle.recheck.proofs.VerdictWalks.{when_false}
use Rattle.recheck.proofs.musts.ignores.Goals as goal

pub returns-then-not-may_read-clause-ignores : goal.returns-then-not-may_read-clause-ignores
returns-then-not-may_read-clause-ignores c = λ _.
    no_readers c.args.models.now c.args.table.now c.args.verdict.now c.as_str-name.result.now c.as_str-name.ensures.text
    (when_false _ _ c.if-not-may_read.true c.may_read.ensures)

pub returns-in-Some-clause-ignores : goal.returns-in-Some-clause-ignores
returns-in-Some-clause-ignores c =
    no_reader c.args.models.now c.args.table.now c.args.verdict.now c.as_str-name.result.now c.as_str-key.result.now c.has_reader.result c.in-Some.shape.now
    c.as_str-name.ensures.text c.as_str-key.ensures.text c.in-Some.ensures c.has_reader.ensures

pub returns-in-None-clause-ignores : goal.returns-in-None-clause-ignores
returns-in-None-clause-ignores c = λ _.
    no_shape c.args.models.now c.args.table.now c.args.verdict.now c.as_str-name.result.now c.as_str-key.result.now c.as_str-name.ensures.text
    c.as_str-key.ensures.text c.in-None.ensures

pub returns-in-Some-clause-reads : goal.returns-in-Some-clause-reads
returns-in-Some-clause-reads c =
    reads_by c.args.models.now c.args.table.now c.args.verdict.now c.as_str-name.result.now c.as_str-key.result.now c.has_reader.result c.in-Some.shape.now
    c.as_str-name.ensures.text c.as_str-key.ensures.text c.in-Some.ensures c.has_reader.ensures
