-- What is pending settled, and a migration made ready, or what is refused.
use Rattle.std.proofs.Common.{◌≡◌, inl, inr, option_map, refl, ◌∙◌}
use Rattle.host_core.specs.Crashes.{MayLeaveNow}
use Rattle.host_core.specs.State.{settled, with_pending}
use Rattle.gcu_output.proofs.Elapsing.{elapses_both}
use Rattle.gcu_requests.specs.Asked.{migrate_asked}
use Rattle.command_answers.proofs.Causes.{disk_fell}
use Rattle.writing_commands.proofs.MigrationReadiness.{due_ready, gives_ready, left_ready, refused_since, unsettled_ready}
use Rattle.writing_commands.proofs.Readiness.{of_ok}
use Rattle.command_answers.specs.Commands.{IsReady, LeftTo}
use Rattle.writing_commands.specs.Doing.{IsKeptOrSettled, LeavesSettled}
use Rattle.writing_commands.proofs.SettledWrites.{err_gives, leaves_on, reads_on, settled_again, settled_on}
use Rattle.writing_commands.proofs.Unwritten.{unwritten_reads}
use Rattle.writing_commands.proofs.Writing.{asking_goes_on, asking_settles}
use Rattle.writing_commands.proofs.migrating.make_ready.Goals as goal

-- ---- all is settled

pub returns-in-Ok-clause-ready : goal.returns-in-Ok-clause-ready
returns-in-Ok-clause-ready g c =
    gives_ready (g.H.Host.told c.args.host.now) (g.H.Host.told c.settle.new.self) c.ready_settled.result
    c.in-Ok.ensures.ok c.ready_settled.ensures.answer

pub returns-in-Ok-clause-due : goal.returns-in-Ok-clause-due
returns-in-Ok-clause-due g c =
    due_ready (g.H.Host.told c.settle.new.self) (g.H.Host.told c.ready_settled.new.host) c.ready_settled.result
    c.ready_settled.ensures.reads.state c.ready_settled.ensures.due

pub returns-in-Ok-clause-told : goal.returns-in-Ok-clause-told
returns-in-Ok-clause-told g c =
    of_ok c.ready_settled.result
    (g.H.Host.told c.ready_settled.new.host ≡ option_map (with_pending settled) (g.H.Host.told c.args.host.now))
    (c.ready_settled.ensures.reads.state ∙ c.in-Ok.ensures.ok)

pub returns-in-Ok-clause-left : goal.returns-in-Ok-clause-left
returns-in-Ok-clause-left g c =
    left_ready (g.H.Host.told c.args.host.now) (g.H.Host.told c.settle.new.self)
    (g.H.Host.told c.ready_settled.new.host) c.ready_settled.result
    (g.H.Host.counts c.settle.new.self) (g.H.Host.counts c.ready_settled.new.host) c.in-Ok.ensures.ok
    c.ready_settled.ensures.reads.state c.ready_settled.ensures.answer c.ready_settled.ensures.cause

pub returns-in-Ok-clause-cause : goal.returns-in-Ok-clause-cause
returns-in-Ok-clause-cause g c =
    refused_since (g.H.Host.counts c.args.host.now) (g.H.Host.counts c.settle.new.self)
    (g.H.Host.counts c.ready_settled.new.host) c.ready_settled.result
    (disk_fell (g.H.Host.counts c.args.host.now) (g.H.Host.counts c.settle.new.self) c.settle.ensures.counts)
    c.ready_settled.ensures.cause

pub returns-in-Ok-clause-crash : goal.returns-in-Ok-clause-crash
returns-in-Ok-clause-crash g c =
    asking_settles g.H.Host.moment g.H.Host.left_since migrate_asked (g.H.Host.told c.args.host.now)
    (g.H.Host.told c.settle.new.self) c.args.host.now c.ready_settled.new.host c.in-Ok.ensures.ok
    (λ left since. g.met.H.Host.only_now c.args.host.now left since)
    (elapses_both g.H.Host.moment g.H.Host.left_since c.args.host.now c.settle.new.self c.ready_settled.new.host (MayLeaveNow (g.H.Host.told c.settle.new.self)) c.settle.ensures.time c.ready_settled.ensures.reads.time)

pub returns-in-Ok-clause-early : goal.returns-in-Ok-clause-early
returns-in-Ok-clause-early g c =
    unwritten_reads g.H.Host.moment g.H.Host.left_since (g.H.Host.told c.args.host.now)
    (g.H.Host.told c.settle.new.self) c.args.host.now c.ready_settled.new.host (inr c.in-Ok.ensures.ok)
    (λ left since. g.met.H.Host.only_now c.args.host.now left since)
    (elapses_both g.H.Host.moment g.H.Host.left_since c.args.host.now c.settle.new.self c.ready_settled.new.host (MayLeaveNow (g.H.Host.told c.settle.new.self)) c.settle.ensures.time c.ready_settled.ensures.reads.time)

pub returns-in-Ok-clause-goes : goal.returns-in-Ok-clause-goes
returns-in-Ok-clause-goes g c =
    g.met.H.Host.continues c.args.host.now c.settle.new.self c.ready_settled.new.host c.settle.ensures.goes
    c.ready_settled.ensures.reads.goes

-- ---- nothing is settled

pub returns-in-Err-clause-left : goal.returns-in-Err-clause-left
returns-in-Err-clause-left g c =
    unsettled_ready (g.H.Host.told c.args.host.now) (g.H.Host.told c.settle.new.self) (g.H.Host.counts c.args.host.now)
    (g.H.Host.counts c.settle.new.self) c.in-Err.ensures.err (refl, c.in-Err.ensures.cause)

pub returns-in-Err-clause-cause : goal.returns-in-Err-clause-cause
returns-in-Err-clause-cause g c = (refl, c.in-Err.ensures.cause)

pub returns-in-Err-clause-crash : goal.returns-in-Err-clause-crash
returns-in-Err-clause-crash g c =
    asking_goes_on g.H.Host.moment g.H.Host.left_since migrate_asked (g.H.Host.told c.args.host.now)
    (g.H.Host.told c.settle.new.self) c.args.host.now c.settle.new.self c.in-Err.ensures.err
    (λ left since. g.met.H.Host.only_now c.args.host.now left since) c.settle.ensures.time

pub returns-in-Err-clause-early : goal.returns-in-Err-clause-early
returns-in-Err-clause-early g c =
    unwritten_reads g.H.Host.moment g.H.Host.left_since (g.H.Host.told c.args.host.now)
    (g.H.Host.told c.settle.new.self) c.args.host.now c.settle.new.self (inl c.in-Err.ensures.err)
    (λ left since. g.met.H.Host.only_now c.args.host.now left since) c.settle.ensures.time

-- ---- what is pending is settled first

pub returns-in-Ok-clause-settles : goal.returns-in-Ok-clause-settles
returns-in-Ok-clause-settles g c =
    let mid = g.H.Host.told c.settle.new.self in
    let new = g.H.Host.told c.ready_settled.new.host in
    err_gives (IsReady migrate_asked mid new)
    (IsKeptOrSettled g.H.Host.moment g.H.Host.left_since c.args.host.now c.ready_settled.new.host (g.H.Host.told c.args.host.now) new migrate_asked)
    (λ e ready.
    settled_on g.H.Host.moment g.H.Host.left_since migrate_asked (g.H.Host.told c.args.host.now) mid new e
    c.args.host.now c.settle.new.self c.ready_settled.new.host c.in-Ok.ensures.ok c.settle.ensures.time
    (reads_on g.H.Host.moment g.H.Host.left_since migrate_asked mid c.settle.new.self c.ready_settled.new.host
    (λ left since. g.met.H.Host.only_now c.settle.new.self left since) c.ready_settled.ensures.reads.time)
    (λ left later may. g.met.H.Host.counts_now c.ready_settled.new.host (g.H.Host.moment c.settle.new.self) left later may) ready)
    c.ready_settled.result
    (left_ready mid mid new c.ready_settled.result (g.H.Host.counts c.settle.new.self) (g.H.Host.counts c.ready_settled.new.host)
    (settled_again (g.H.Host.told c.args.host.now) mid c.in-Ok.ensures.ok) c.ready_settled.ensures.reads.state
    c.ready_settled.ensures.answer c.ready_settled.ensures.cause)

pub returns-in-Ok-clause-settled : goal.returns-in-Ok-clause-settled
returns-in-Ok-clause-settled g c =
    of_ok c.ready_settled.result
    (LeavesSettled g.H.Host.moment g.H.Host.left_since c.args.host.now c.ready_settled.new.host (g.H.Host.told c.args.host.now) (LeftTo migrate_asked))
    (leaves_on g.H.Host.moment g.H.Host.left_since migrate_asked (g.H.Host.told c.args.host.now) (g.H.Host.told c.settle.new.self)
    c.args.host.now c.settle.new.self c.ready_settled.new.host c.in-Ok.ensures.ok c.settle.ensures.time
    (reads_on g.H.Host.moment g.H.Host.left_since migrate_asked (g.H.Host.told c.settle.new.self) c.settle.new.self c.ready_settled.new.host
    (λ left since. g.met.H.Host.only_now c.settle.new.self left since) c.ready_settled.ensures.reads.time))

pub returns-in-Err-clause-settles : goal.returns-in-Err-clause-settles
returns-in-Err-clause-settles g c = inl (
  unwritten_reads g.H.Host.moment g.H.Host.left_since (g.H.Host.told c.args.host.now) (g.H.Host.told c.settle.new.self)
      c.args.host.now c.settle.new.self (inl c.in-Err.ensures.err)
      (λ left since. g.met.H.Host.only_now c.args.host.now left since) c.settle.ensures.time,
  c.in-Err.ensures.err,
)
