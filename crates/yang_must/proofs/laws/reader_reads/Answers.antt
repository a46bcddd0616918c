use Rattle.yang_must.proofs.laws.reader_reads.Goals as goal

pub returns : goal.returns
returns c = record { reads = λ s e. (c.read_is_spelled.ensures s e, c.spelled_is_read.ensures s e) }
