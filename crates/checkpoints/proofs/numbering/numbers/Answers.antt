use Rattle.checkpoints.proofs.Counting.{rose_later}
use Rattle.checkpoints.proofs.NumberListings.{numbers_listed}
use Rattle.checkpoints.proofs.ReadCalls.{reads_both}
use Rattle.checkpoints.proofs.numbering.numbers.Goals as goal

pub returns-clause-answer : goal.returns-clause-answer
returns-clause-answer g c =
    numbers_listed (g.H.Host.told c.args.host.now) (g.H.Host.told c.names.new.host) c.names.ensures.reads.state c.in_ok-all.all c.in_ok-all.ensures.answer
    c.read_numbers.result c.read_numbers.ensures.numbers

pub returns-clause-reads : goal.returns-clause-reads
returns-clause-reads g c =
    reads_both g.H.Host.told g.H.Host.counts g.H.Host.moment g.H.Host.left_since g.H.Host.goes_on g.met.H.Host.continues
    c.args.host.now c.names.new.host c.read_numbers.new.host c.names.ensures.reads c.read_numbers.ensures.reads

pub returns-clause-cause : goal.returns-clause-cause
returns-clause-cause g c =
    λ is. rose_later (g.H.Host.counts c.args.host.now) (g.H.Host.counts c.names.new.host) (g.H.Host.counts c.read_numbers.new.host) c.names.ensures.reads.faults (c.read_numbers.ensures.cause is)
