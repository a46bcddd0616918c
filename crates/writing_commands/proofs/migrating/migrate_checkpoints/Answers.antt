-- A migration that is made ready and done, or refused.
use Rattle.std.proofs.Common.{inr, Err}
use Rattle.host_core.specs.Crashes.{LeavesOnly}
use Rattle.gcu_requests.specs.Asked.{migrate_asked}
use Rattle.command_answers.specs.Commands.{LeftUnwritten}
use Rattle.command_answers.proofs.Causes.{ended_cause}
use Rattle.writing_commands.proofs.Changes.{cause_from}
use Rattle.command_answers.proofs.Completing.{completes}
use Rattle.command_answers.proofs.Elapsing.{asking_prints}
use Rattle.writing_commands.proofs.MigrationReadiness.{early_leaves, early_settles, migration_answers, migration_leaves, migration_settles}
use Rattle.writing_commands.proofs.Readiness.{settled_now}
use Rattle.writing_commands.proofs.SettledWrites.{told_settles}
use Rattle.writing_commands.proofs.Unwritten.{unless_fault, unwritten_tells}
use Rattle.writing_commands.proofs.Writing.{comes_first, outcome_cause, told_answers}
use Rattle.writing_commands.proofs.migrating.migrate_checkpoints.Goals as goal

-- ---- a migration that is ready

pub do_migration-requires-clause-clean : goal.do_migration-requires-clause-clean
do_migration-requires-clause-clean g c =
    settled_now (g.H.Host.told c.args.host.now) (g.H.Host.told c.make_ready.new.host) c.in-Ok.ensures.told

pub returns-in-Ok-clause-answers : goal.returns-in-Ok-clause-answers
returns-in-Ok-clause-answers g c =
    migration_answers (g.H.Host.told c.args.host.now) (g.H.Host.told c.make_ready.new.host)
    (g.H.Host.told c.do_migration.new.host) c.in-Ok.ready.migration
    (g.H.Host.counts c.args.host.now) (g.H.Host.counts c.make_ready.new.host) (g.H.Host.counts c.do_migration.new.host)
    c.do_migration.result
    c.in-Ok.ensures.ready c.in-Ok.ensures.told c.do_migration.ensures.answers c.make_ready.ensures.counts

pub returns-in-Ok-clause-cause : goal.returns-in-Ok-clause-cause
returns-in-Ok-clause-cause g c =
    cause_from (g.H.Host.counts c.args.host.now) (g.H.Host.counts c.make_ready.new.host)
    (g.H.Host.counts c.do_migration.new.host) c.do_migration.result c.make_ready.ensures.counts
    c.do_migration.ensures.cause

pub returns-in-Ok-clause-crash : goal.returns-in-Ok-clause-crash
returns-in-Ok-clause-crash g c =
    migration_leaves g.H.Host.moment g.H.Host.left_since (g.H.Host.told c.args.host.now)
    (g.H.Host.told c.make_ready.new.host) c.in-Ok.ready.migration
    c.args.host.now c.make_ready.new.host c.do_migration.new.host c.in-Ok.ensures.ready c.in-Ok.ensures.told
    c.make_ready.ensures.crash c.do_migration.ensures.any_moment c.do_migration.ensures.later

pub returns-in-Ok-clause-early : goal.returns-in-Ok-clause-early
returns-in-Ok-clause-early g c = λ refusal. absurd (c.do_migration.ensures.works refusal)

pub returns-in-Ok-clause-goes : goal.returns-in-Ok-clause-goes
returns-in-Ok-clause-goes g c =
    g.met.H.Host.continues c.args.host.now c.make_ready.new.host c.do_migration.new.host c.make_ready.ensures.goes
    c.do_migration.ensures.goes

pub returns-in-Ok-clause-complete : goal.returns-in-Ok-clause-complete
returns-in-Ok-clause-complete g c =
    completes migrate_asked (g.H.Host.told c.args.host.now) (g.H.Host.told c.do_migration.new.host)
    (g.H.Host.counts c.args.host.now) (g.H.Host.counts c.do_migration.new.host) c.do_migration.result
    (returns-in-Ok-clause-cause g c) (returns-in-Ok-clause-answers g c)

-- ---- a refusal

pub tell-requires : goal.tell-requires
tell-requires g c =
    comes_first (g.H.Host.counts c.args.host.now) (g.H.Host.counts c.make_ready.new.host) (Err c.in-Err.refusal)
    c.in-Err.ensures.cause

pub returns-in-Err-clause-answers : goal.returns-in-Err-clause-answers
returns-in-Err-clause-answers g c =
    told_answers migrate_asked (g.H.Host.told c.args.host.now) (g.H.Host.told c.make_ready.new.host)
    (g.H.Host.told c.tell.new.host)
    (g.H.Host.counts c.args.host.now) (g.H.Host.counts c.make_ready.new.host) (g.H.Host.counts c.tell.new.host)
    c.in-Err.refusal c.tell.result
    c.in-Err.ensures.left c.tell.ensures.told c.tell.ensures.counts
    (outcome_cause (g.H.Host.counts c.args.host.now) (g.H.Host.counts c.make_ready.new.host) (Err c.in-Err.refusal) c.in-Err.ensures.cause)

pub returns-in-Err-clause-cause : goal.returns-in-Err-clause-cause
returns-in-Err-clause-cause g c =
    ended_cause (g.H.Host.counts c.args.host.now) (g.H.Host.counts c.make_ready.new.host)
    (g.H.Host.counts c.tell.new.host) c.make_ready.ensures.counts c.tell.ensures.counts
    (Err c.in-Err.refusal) (g.H.Host.told c.make_ready.new.host) (g.H.Host.told c.tell.new.host) c.tell.result
    c.in-Err.ensures.cause c.tell.ensures.told

pub returns-in-Err-clause-crash : goal.returns-in-Err-clause-crash
returns-in-Err-clause-crash g c =
    early_leaves g.H.Host.moment g.H.Host.left_since (g.H.Host.told c.args.host.now) c.args.host.now c.tell.new.host
    (asking_prints g.H.Host.moment g.H.Host.left_since migrate_asked c.args.host.now c.make_ready.new.host c.tell.new.host
    (g.H.Host.told c.args.host.now) (g.H.Host.told c.make_ready.new.host) c.in-Err.refusal c.in-Err.ensures.left
    c.make_ready.ensures.crash
    (λ left later may. g.met.H.Host.counts_now c.make_ready.new.host (g.H.Host.moment c.args.host.now) left later may) c.tell.ensures.time)

pub returns-in-Err-clause-early : goal.returns-in-Err-clause-early
returns-in-Err-clause-early g c = λ refusal.
    unwritten_tells g.H.Host.moment g.H.Host.left_since migrate_asked (g.H.Host.told c.args.host.now)
    (g.H.Host.told c.make_ready.new.host) (g.H.Host.told c.tell.new.host) (Err c.in-Err.refusal)
    (g.H.Host.counts c.args.host.now) (g.H.Host.counts c.make_ready.new.host) (g.H.Host.counts c.make_ready.new.host)
    (g.H.Host.counts c.tell.new.host) c.tell.result
    c.args.host.now c.make_ready.new.host c.tell.new.host c.in-Err.ensures.left c.in-Err.ensures.cause
    (unless_fault (LeavesOnly g.H.Host.moment g.H.Host.left_since c.args.host.now c.make_ready.new.host (LeftUnwritten (g.H.Host.told c.args.host.now))) c.make_ready.ensures.early c.in-Err.refusal)
    c.tell.ensures.told c.tell.ensures.time refusal

pub returns-in-Err-clause-goes : goal.returns-in-Err-clause-goes
returns-in-Err-clause-goes g c =
    g.met.H.Host.continues c.args.host.now c.make_ready.new.host c.tell.new.host c.make_ready.ensures.goes
    c.tell.ensures.goes

pub returns-in-Err-clause-complete : goal.returns-in-Err-clause-complete
returns-in-Err-clause-complete g c =
    completes migrate_asked (g.H.Host.told c.args.host.now) (g.H.Host.told c.tell.new.host)
    (g.H.Host.counts c.args.host.now) (g.H.Host.counts c.tell.new.host) c.tell.result
    (returns-in-Err-clause-cause g c) (returns-in-Err-clause-answers g c)

-- ---- what is pending is settled first

pub returns-in-Ok-clause-settles : goal.returns-in-Ok-clause-settles
returns-in-Ok-clause-settles g c =
    inr (migration_settles g.H.Host.moment g.H.Host.left_since (g.H.Host.told c.args.host.now)
    (g.H.Host.told c.make_ready.new.host) c.in-Ok.ready.migration
    c.args.host.now c.make_ready.new.host c.do_migration.new.host c.in-Ok.ensures.ready c.in-Ok.ensures.told
    c.in-Ok.ensures.settled c.do_migration.ensures.any_moment c.make_ready.ensures.crash.later)

pub returns-in-Err-clause-settles : goal.returns-in-Err-clause-settles
returns-in-Err-clause-settles g c =
    early_settles g.H.Host.moment g.H.Host.left_since (g.H.Host.told c.args.host.now) c.args.host.now c.tell.new.host
    (told_settles g.H.Host.moment g.H.Host.left_since migrate_asked (g.H.Host.told c.args.host.now)
    (g.H.Host.told c.make_ready.new.host) c.in-Err.refusal c.args.host.now c.make_ready.new.host
    c.tell.new.host c.make_ready.ensures.crash.later
    (λ left since. g.met.H.Host.only_now c.make_ready.new.host left since)
    (λ left later may. g.met.H.Host.counts_now c.make_ready.new.host (g.H.Host.moment c.make_ready.new.host) left later may)
    c.in-Err.ensures.settles c.tell.ensures.time)
