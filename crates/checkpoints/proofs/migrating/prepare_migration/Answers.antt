use Rattle.std.proofs.Common.{Option, IfSome, subst}
use Rattle.std.specs.Prelude.{All}
use Rattle.host_core.specs.State.{State}
use Rattle.checkpoints.specs.Migrations.{IsDue, NewFile}
use Rattle.std.proofs.lemmas.Result.{IfOk-weaker}
use Rattle.checkpoints.proofs.Counting.{rose_later}
use Rattle.checkpoints.proofs.OldCheckpoints.{migration_found}
use Rattle.checkpoints.proofs.ReadCalls.{reads_both}
use Rattle.checkpoints.proofs.migrating.prepare_migration.Goals as goal

pub returns-clause-all : goal.returns-clause-all
returns-clause-all g c =
    IfOk-weaker c.find_rewrites.result _ _
    (λ m found. migration_found (g.H.Host.told c.args.host.now) (g.H.Host.told c.names.new.host) c.names.ensures.reads.state c.in_ok-all.all c.in_ok-all.ensures.answer m found)
    c.find_rewrites.ensures.all

pub returns-clause-due : goal.returns-clause-due
returns-clause-due g c =
    IfOk-weaker c.find_rewrites.result _ _
    (λ m due. subst (λ (o : Option State). IfSome o (λ s. All (λ (n : NewFile). IsDue n s.files) m)) c.names.ensures.reads.state due)
    c.find_rewrites.ensures.due

pub returns-clause-reads : goal.returns-clause-reads
returns-clause-reads g c =
    reads_both g.H.Host.told g.H.Host.counts g.H.Host.moment g.H.Host.left_since g.H.Host.goes_on g.met.H.Host.continues
    c.args.host.now c.names.new.host c.find_rewrites.new.host c.names.ensures.reads c.find_rewrites.ensures.reads

pub returns-clause-cause : goal.returns-clause-cause
returns-clause-cause g c =
    λ is. rose_later (g.H.Host.counts c.args.host.now) (g.H.Host.counts c.names.new.host) (g.H.Host.counts c.find_rewrites.new.host) c.names.ensures.reads.faults (c.find_rewrites.ensures.cause is)
