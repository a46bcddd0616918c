use Rattle.std.proofs.Common.{◌≡◌, true, arith}
use Rattle.std.proofs.lemmas.Result.{err_from_is_err_and}
use Rattle.checkpoints.specs.Names.{is_good_name}
use Rattle.checkpoints.specs.declared.errors.PointError.TheVariants.{Disk}
use Rattle.checkpoints.proofs.Counting.{err_too, rose_later}
use Rattle.checkpoints.proofs.NumberListings.{all_read, none_read, of_item, one_read}
use Rattle.checkpoints.proofs.ReadCalls.{reads_both, reads_none}
use Rattle.checkpoints.proofs.numbering.read_numbers.Goals as goal

pub loop-i-init : goal.loop-i-init
loop-i-init g c = record {
  reads = reads_none g.H.Host.told g.H.Host.counts g.H.Host.moment g.H.Host.left_since g.H.Host.goes_on c.args.host.now (g.met.H.Host.begins c.args.host.now);
  numbers = none_read (g.H.Host.told c.args.host.now) c.args.names.now c.new-all.result c.new-all.ensures;
}

pub read_number-requires-clause-good : goal.read_number-requires-clause-good
read_number-requires-clause-good g c = of_item (λ n. is_good_name n ≡ true) c.args.names.now c.loop-i.i c.at.result.now c.requires.good c.at.ensures

pub loop-i-preserved : goal.loop-i-preserved
loop-i-preserved g c = record {
  reads =
      reads_both g.H.Host.told g.H.Host.counts g.H.Host.moment g.H.Host.left_since g.H.Host.goes_on g.met.H.Host.continues
      c.args.host.now c.loop-i.host c.read_number.new.host c.loop-i.invariant.reads c.read_number.ensures.reads;
  numbers =
      one_read (g.H.Host.told c.args.host.now) (g.H.Host.told c.loop-i.host) c.args.names.now c.loop-i.i c.at.result.now c.loop-i.all c.push.new.self c.in_ok-numbered.numbered
      c.loop-i.invariant.reads.state c.at.ensures c.in_ok-push.ensures.ok c.loop-i.invariant.numbers c.in_ok-numbered.ensures.number;
}

-- ---- where a call fails

pub returns-in_err-numbered-clause-reads : goal.returns-in_err-numbered-clause-reads
returns-in_err-numbered-clause-reads g c =
    reads_both g.H.Host.told g.H.Host.counts g.H.Host.moment g.H.Host.left_since g.H.Host.goes_on g.met.H.Host.continues
    c.args.host.now c.loop-i.host c.read_number.new.host c.loop-i.invariant.reads c.read_number.ensures.reads

pub returns-in_err-numbered-clause-cause : goal.returns-in_err-numbered-clause-cause
returns-in_err-numbered-clause-cause g c =
    let p = err_from_is_err_and c.from_residual.result c.from_residual.ensures.1 in
    rw (p.1, p.2)
    (λ is. rose_later (g.H.Host.counts c.args.host.now) (g.H.Host.counts c.loop-i.host) (g.H.Host.counts c.read_number.new.host) c.loop-i.invariant.reads.faults
    (c.in_err-numbered.ensures.cause (err_too c.in_err-numbered.field-0.0 Disk is)))

pub returns-in_err-push-clause-reads : goal.returns-in_err-push-clause-reads
returns-in_err-push-clause-reads g c =
    reads_both g.H.Host.told g.H.Host.counts g.H.Host.moment g.H.Host.left_since g.H.Host.goes_on g.met.H.Host.continues
    c.args.host.now c.loop-i.host c.read_number.new.host c.loop-i.invariant.reads c.read_number.ensures.reads

-- ---- all of them

pub returns-clause-numbers : goal.returns-clause-numbers
returns-clause-numbers g c =
    all_read (g.H.Host.told c.args.host.now) c.args.names.now c.loop-i.i c.loop-i.all (omega arith) c.loop-i.invariant.numbers
