use Rattle.std.proofs.Common.{◌≡◌, true, arith}
use Rattle.std.proofs.lemmas.Result.{err_from_is_err_and}
use Rattle.checkpoints.specs.Names.{is_good_name}
use Rattle.checkpoints.specs.declared.errors.PointError.TheVariants.{Disk}
use Rattle.checkpoints.proofs.Counting.{err_too, rose_later}
use Rattle.checkpoints.proofs.NumberListings.{of_item}
use Rattle.checkpoints.proofs.OldCheckpoints.{all_found, none_found, none_due, one_found, one_due}
use Rattle.checkpoints.proofs.ReadCalls.{reads_both, reads_none}
use Rattle.checkpoints.proofs.migrating.find_rewrites.Goals as goal

pub loop-i-init : goal.loop-i-init
loop-i-init g c = record {
  reads = reads_none g.H.Host.told g.H.Host.counts g.H.Host.moment g.H.Host.left_since g.H.Host.goes_on c.args.host.now (g.met.H.Host.begins c.args.host.now);
  all = none_found (g.H.Host.told c.args.host.now) c.args.names.now c.new-migration.result c.new-migration.ensures;
  due = none_due (g.H.Host.told c.args.host.now) c.new-migration.result c.new-migration.ensures;
}

pub find_rewrite-requires-clause-good : goal.find_rewrite-requires-clause-good
find_rewrite-requires-clause-good g c = of_item (λ n. is_good_name n ≡ true) c.args.names.now c.loop-i.i c.at.result.now c.requires.good c.at.ensures

pub loop-i-preserved : goal.loop-i-preserved
loop-i-preserved g c = record {
  reads =
      reads_both g.H.Host.told g.H.Host.counts g.H.Host.moment g.H.Host.left_since g.H.Host.goes_on g.met.H.Host.continues
      c.args.host.now c.loop-i.host c.find_rewrite.new.host c.loop-i.invariant.reads c.find_rewrite.ensures.reads;
  all =
      one_found (g.H.Host.told c.args.host.now) (g.H.Host.told c.loop-i.host) c.args.names.now c.loop-i.i c.at.result.now c.loop-i.migration c.add.new.self c.in_ok-found.found
      c.loop-i.invariant.reads.state c.at.ensures c.in_ok-add.ensures.ok c.loop-i.invariant.all c.in_ok-found.ensures.found;
  due =
      one_due (g.H.Host.told c.args.host.now) (g.H.Host.told c.loop-i.host) c.loop-i.migration c.add.new.self c.in_ok-found.found
      c.loop-i.invariant.reads.state c.in_ok-add.ensures.ok c.loop-i.invariant.due c.in_ok-found.ensures.due;
}

-- ---- where a call fails

pub returns-in_err-found-clause-reads : goal.returns-in_err-found-clause-reads
returns-in_err-found-clause-reads g c =
    reads_both g.H.Host.told g.H.Host.counts g.H.Host.moment g.H.Host.left_since g.H.Host.goes_on g.met.H.Host.continues
    c.args.host.now c.loop-i.host c.find_rewrite.new.host c.loop-i.invariant.reads c.find_rewrite.ensures.reads

pub returns-in_err-found-clause-cause : goal.returns-in_err-found-clause-cause
returns-in_err-found-clause-cause g c =
    let p = err_from_is_err_and c.from_residual.result c.from_residual.ensures.1 in
    rw (p.1, p.2)
    (λ is. rose_later (g.H.Host.counts c.args.host.now) (g.H.Host.counts c.loop-i.host) (g.H.Host.counts c.find_rewrite.new.host) c.loop-i.invariant.reads.faults
    (c.in_err-found.ensures.cause (err_too c.in_err-found.field-0.0 Disk is)))

pub returns-in_err-add-clause-reads : goal.returns-in_err-add-clause-reads
returns-in_err-add-clause-reads g c =
    reads_both g.H.Host.told g.H.Host.counts g.H.Host.moment g.H.Host.left_since g.H.Host.goes_on g.met.H.Host.continues
    c.args.host.now c.loop-i.host c.find_rewrite.new.host c.loop-i.invariant.reads c.find_rewrite.ensures.reads

-- ---- all of them

pub returns-clause-all : goal.returns-clause-all
returns-clause-all g c =
    all_found (g.H.Host.told c.args.host.now) c.args.names.now c.loop-i.i c.loop-i.migration (omega arith) c.loop-i.invariant.all
