-- What is pending settled, and a change made ready, or what is refused.
use Rattle.std.proofs.Common.{◌≡◌, inl, inr, option_map, refl, sym, ◌∙◌, subst}
use Rattle.host_core.specs.Crashes.{Elapses, MayLeaveNow}
use Rattle.host_core.specs.State.{settled, with_pending}
use Rattle.gcu_words.specs.FormView.{task_view}
use Rattle.writing_commands.specs.Doing.{IsKept}
use Rattle.gcu_output.proofs.Elapsing.{elapses_both}
use Rattle.command_answers.proofs.Causes.{disk_fell}
use Rattle.writing_commands.proofs.Readiness.{ends_before, left_of, of_err, of_ok, ready_at, ready_of, settled_leaves, unsettled_leaves, unsettled_left}
use Rattle.writing_commands.proofs.changing.make_ready.Goals as goal

-- ---- all is settled

pub returns-in-Ok-clause-ready : goal.returns-in-Ok-clause-ready
returns-in-Ok-clause-ready g c =
    ready_of (task_view c.args.task) c.args.budget c.work_settled.result (g.H.Host.told c.args.host.now)
    (g.H.Host.told c.settle.new.self) c.in-Ok.ensures.ok c.work_settled.ensures.prepared

pub returns-in-Ok-clause-there : goal.returns-in-Ok-clause-there
returns-in-Ok-clause-there g c =
    ready_at (task_view c.args.task) c.args.budget c.work_settled.result (g.H.Host.told c.settle.new.self)
    (g.H.Host.told c.work_settled.new.host) c.work_settled.ensures.reads.state c.work_settled.ensures.prepared

pub returns-in-Ok-clause-time : goal.returns-in-Ok-clause-time
returns-in-Ok-clause-time g c =
    of_ok c.work_settled.result
    (Elapses g.H.Host.moment g.H.Host.left_since c.args.host.now c.work_settled.new.host
    (MayLeaveNow (g.H.Host.told c.work_settled.new.host)))
    (subst (λ o. Elapses g.H.Host.moment g.H.Host.left_since c.args.host.now c.work_settled.new.host (MayLeaveNow o))
    (sym c.work_settled.ensures.reads.state)
    (elapses_both g.H.Host.moment g.H.Host.left_since c.args.host.now c.settle.new.self c.work_settled.new.host
    (MayLeaveNow (g.H.Host.told c.settle.new.self)) c.settle.ensures.time c.work_settled.ensures.reads.time))

pub returns-in-Ok-clause-told : goal.returns-in-Ok-clause-told
returns-in-Ok-clause-told g c =
    of_ok c.work_settled.result
    (g.H.Host.told c.work_settled.new.host ≡ option_map (with_pending settled) (g.H.Host.told c.args.host.now))
    (c.work_settled.ensures.reads.state ∙ c.in-Ok.ensures.ok)

pub returns-in-Ok-clause-left : goal.returns-in-Ok-clause-left
returns-in-Ok-clause-left g c =
    left_of (task_view c.args.task) c.args.budget c.work_settled.result (g.H.Host.told c.args.host.now)
    (g.H.Host.told c.settle.new.self) (g.H.Host.told c.work_settled.new.host)
    (g.H.Host.counts c.settle.new.self) (g.H.Host.counts c.work_settled.new.host) c.in-Ok.ensures.ok
    c.work_settled.ensures.reads.state c.work_settled.ensures.prepared c.work_settled.ensures.cause

pub returns-in-Ok-clause-kept : goal.returns-in-Ok-clause-kept
returns-in-Ok-clause-kept g c =
    of_err c.work_settled.result (IsKept (g.H.Host.told c.args.host.now) (g.H.Host.told c.work_settled.new.host))
    (inr (c.work_settled.ensures.reads.state ∙ c.in-Ok.ensures.ok))

pub returns-in-Ok-clause-cause : goal.returns-in-Ok-clause-cause
returns-in-Ok-clause-cause g c =
    ends_before (g.H.Host.counts c.args.host.now) (g.H.Host.counts c.settle.new.self)
    (g.H.Host.counts c.work_settled.new.host) c.work_settled.result
    (disk_fell (g.H.Host.counts c.args.host.now) (g.H.Host.counts c.settle.new.self) c.settle.ensures.counts)
    c.work_settled.ensures.cause

pub returns-in-Ok-clause-crash : goal.returns-in-Ok-clause-crash
returns-in-Ok-clause-crash g c =
    settled_leaves (task_view c.args.task) c.args.budget g.H.Host.moment g.H.Host.left_since
    (g.H.Host.told c.args.host.now) (g.H.Host.told c.settle.new.self)
    c.args.host.now c.settle.new.self c.work_settled.new.host c.in-Ok.ensures.ok
    (λ left since. g.met.H.Host.only_now c.args.host.now left since)
    c.settle.ensures.time c.work_settled.ensures.reads.time

pub returns-in-Ok-clause-goes : goal.returns-in-Ok-clause-goes
returns-in-Ok-clause-goes g c =
    g.met.H.Host.continues c.args.host.now c.settle.new.self c.work_settled.new.host c.settle.ensures.goes
    c.work_settled.ensures.reads.goes

-- ---- nothing is settled

pub returns-in-Err-clause-left : goal.returns-in-Err-clause-left
returns-in-Err-clause-left g c =
    unsettled_left (task_view c.args.task) c.args.budget (g.H.Host.told c.args.host.now)
    (g.H.Host.told c.settle.new.self) c.in-Err.ensures.err

pub returns-in-Err-clause-kept : goal.returns-in-Err-clause-kept
returns-in-Err-clause-kept g c = inl c.in-Err.ensures.err

pub returns-in-Err-clause-cause : goal.returns-in-Err-clause-cause
returns-in-Err-clause-cause g c = (refl, c.in-Err.ensures.cause)

pub returns-in-Err-clause-crash : goal.returns-in-Err-clause-crash
returns-in-Err-clause-crash g c =
    unsettled_leaves (task_view c.args.task) c.args.budget g.H.Host.moment g.H.Host.left_since
    (g.H.Host.told c.args.host.now) (g.H.Host.told c.settle.new.self)
    c.args.host.now c.settle.new.self c.in-Err.ensures.err
    (λ left since. g.met.H.Host.only_now c.args.host.now left since) c.settle.ensures.time
