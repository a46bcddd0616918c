-- A task that is made ready and done, or refused.
use Rattle.std.proofs.Common.{inl, inr}
use Rattle.gcu_words.specs.FormView.{task_view}
use Rattle.gcu_requests.specs.WorkAsked.{settled_asked}
use Rattle.command_answers.proofs.Causes.{unsolved_cause}
use Rattle.writing_commands.proofs.Changes.{cause_from, change_answers}
use Rattle.command_answers.proofs.Completing.{completes}
use Rattle.command_answers.proofs.PlanSaying.{end_cause}
use Rattle.writing_commands.proofs.Readiness.{change_leaves, change_settles, closes_now, early_leaves, line_leaves, said_ready, settled_now, stands_now}
use Rattle.writing_commands.proofs.changing.change_named.Goals as goal

-- ---- what the change needs

pub do_change-requires-clause-clean : goal.do_change-requires-clause-clean
do_change-requires-clause-clean g c =
    settled_now (g.H.Host.told c.args.host.now) (g.H.Host.told c.make_ready.new.host) c.in-Ok.ensures.told

pub do_change-requires-clause-stands : goal.do_change-requires-clause-stands
do_change-requires-clause-stands g c =
    stands_now (task_view c.args.task) c.args.budget (g.H.Host.told c.args.host.now)
    (g.H.Host.told c.make_ready.new.host) c.in-Ok.ready c.in-Ok.ensures.ready c.in-Ok.ensures.told

pub do_change-requires-clause-closes : goal.do_change-requires-clause-closes
do_change-requires-clause-closes g c =
    closes_now (task_view c.args.task) c.args.budget (g.H.Host.told c.args.host.now)
    (g.H.Host.told c.make_ready.new.host) c.in-Ok.ready c.in-Ok.ensures.ready c.in-Ok.ensures.told

-- ---- what is answered

pub returns-in-Ok-clause-answers : goal.returns-in-Ok-clause-answers
returns-in-Ok-clause-answers g c =
    change_answers (task_view c.args.task) c.args.budget (g.H.Host.told c.args.host.now)
    (g.H.Host.told c.make_ready.new.host) (g.H.Host.told c.do_change.new.host) c.in-Ok.ready
    (g.H.Host.counts c.args.host.now) (g.H.Host.counts c.make_ready.new.host) (g.H.Host.counts c.do_change.new.host)
    c.do_change.result
    c.in-Ok.ensures.ready c.in-Ok.ensures.told c.do_change.ensures.answers c.make_ready.ensures.counts

pub returns-in-Err-clause-answers : goal.returns-in-Err-clause-answers
returns-in-Err-clause-answers g c =
    said_ready (task_view c.args.task) c.args.budget (g.H.Host.told c.args.host.now)
    (g.H.Host.told c.make_ready.new.host) (g.H.Host.told c.say.new.host)
    (g.H.Host.counts c.args.host.now) (g.H.Host.counts c.make_ready.new.host) (g.H.Host.counts c.say.new.host)
    c.in-Err.outcome c.say.result
    c.in-Err.ensures.left c.in-Err.ensures.kept c.say.ensures.said c.say.ensures.counts
    (end_cause (g.H.Host.counts c.args.host.now) (g.H.Host.counts c.make_ready.new.host)
    c.in-Err.outcome c.in-Err.ensures.cause)

pub returns-in-Ok-clause-cause : goal.returns-in-Ok-clause-cause
returns-in-Ok-clause-cause g c =
    cause_from (g.H.Host.counts c.args.host.now) (g.H.Host.counts c.make_ready.new.host)
    (g.H.Host.counts c.do_change.new.host) c.do_change.result
    c.make_ready.ensures.counts c.do_change.ensures.cause

pub returns-in-Err-clause-cause : goal.returns-in-Err-clause-cause
returns-in-Err-clause-cause g c =
    unsolved_cause (g.H.Host.counts c.args.host.now) (g.H.Host.counts c.make_ready.new.host)
    (g.H.Host.counts c.say.new.host) c.make_ready.ensures.counts c.say.ensures.counts
    c.in-Err.outcome (g.H.Host.told c.make_ready.new.host) (g.H.Host.told c.say.new.host) c.say.result
    c.in-Err.ensures.cause c.say.ensures.said

-- ---- time

pub returns-in-Ok-clause-crash : goal.returns-in-Ok-clause-crash
returns-in-Ok-clause-crash g c =
    change_leaves (task_view c.args.task) c.args.budget g.H.Host.moment g.H.Host.left_since
    c.points_are_in_other_files.ensures (g.H.Host.told c.args.host.now) (g.H.Host.told c.make_ready.new.host)
    c.in-Ok.ready
    c.args.host.now c.make_ready.new.host c.do_change.new.host c.in-Ok.ensures.ready c.in-Ok.ensures.told
    c.make_ready.ensures.crash c.do_change.ensures.any_moment c.do_change.ensures.later

pub returns-in-Ok-clause-settles : goal.returns-in-Ok-clause-settles
returns-in-Ok-clause-settles g c =
    inr (change_settles (task_view c.args.task) c.args.budget g.H.Host.moment g.H.Host.left_since
    c.points_are_in_other_files.ensures (g.H.Host.told c.args.host.now) (g.H.Host.told c.make_ready.new.host)
    c.in-Ok.ready
    c.args.host.now c.make_ready.new.host c.do_change.new.host c.in-Ok.ensures.there c.in-Ok.ensures.told
    c.in-Ok.ensures.time
    (λ left since. g.met.H.Host.only_now c.make_ready.new.host left since) c.do_change.ensures.any_moment
    c.do_change.ensures.later)

pub returns-in-Err-clause-settles : goal.returns-in-Err-clause-settles
returns-in-Err-clause-settles g c =
    inl (line_leaves (settled_asked (task_view c.args.task) c.args.budget) g.H.Host.moment g.H.Host.left_since
    (g.H.Host.told c.args.host.now) (g.H.Host.told c.make_ready.new.host) c.in-Err.outcome
    c.args.host.now c.make_ready.new.host c.say.new.host c.in-Err.ensures.left c.in-Err.ensures.kept
    c.make_ready.ensures.crash c.say.ensures.time)

pub returns-in-Ok-clause-early : goal.returns-in-Ok-clause-early
returns-in-Ok-clause-early g c = λ refusal. absurd (c.do_change.ensures.works refusal)

pub returns-in-Err-clause-early : goal.returns-in-Err-clause-early
returns-in-Err-clause-early g c = λ refusal.
    line_leaves (settled_asked (task_view c.args.task) c.args.budget) g.H.Host.moment g.H.Host.left_since
    (g.H.Host.told c.args.host.now) (g.H.Host.told c.make_ready.new.host) c.in-Err.outcome
    c.args.host.now c.make_ready.new.host c.say.new.host c.in-Err.ensures.left c.in-Err.ensures.kept
    c.make_ready.ensures.crash c.say.ensures.time

pub returns-in-Err-clause-crash : goal.returns-in-Err-clause-crash
returns-in-Err-clause-crash g c =
    early_leaves (settled_asked (task_view c.args.task) c.args.budget) g.H.Host.moment g.H.Host.left_since
    (g.H.Host.told c.args.host.now)
    c.args.host.now c.say.new.host
    (line_leaves (settled_asked (task_view c.args.task) c.args.budget)
    g.H.Host.moment g.H.Host.left_since (g.H.Host.told c.args.host.now) (g.H.Host.told c.make_ready.new.host)
    c.in-Err.outcome
    c.args.host.now c.make_ready.new.host c.say.new.host c.in-Err.ensures.left c.in-Err.ensures.kept
    c.make_ready.ensures.crash c.say.ensures.time)

pub returns-in-Ok-clause-goes : goal.returns-in-Ok-clause-goes
returns-in-Ok-clause-goes g c =
    g.met.H.Host.continues c.args.host.now c.make_ready.new.host c.do_change.new.host c.make_ready.ensures.goes
    c.do_change.ensures.goes

pub returns-in-Err-clause-goes : goal.returns-in-Err-clause-goes
returns-in-Err-clause-goes g c =
    g.met.H.Host.continues c.args.host.now c.make_ready.new.host c.say.new.host c.make_ready.ensures.goes
    c.say.ensures.goes

-- ---- where nothing failed

pub returns-in-Ok-clause-complete : goal.returns-in-Ok-clause-complete
returns-in-Ok-clause-complete g c =
    completes (settled_asked (task_view c.args.task) c.args.budget) (g.H.Host.told c.args.host.now)
    (g.H.Host.told c.do_change.new.host) (g.H.Host.counts c.args.host.now) (g.H.Host.counts c.do_change.new.host)
    c.do_change.result
    (returns-in-Ok-clause-cause g c) (returns-in-Ok-clause-answers g c)

pub returns-in-Err-clause-complete : goal.returns-in-Err-clause-complete
returns-in-Err-clause-complete g c =
    completes (settled_asked (task_view c.args.task) c.args.budget) (g.H.Host.told c.args.host.now)
    (g.H.Host.told c.say.new.host) (g.H.Host.counts c.args.host.now) (g.H.Host.counts c.say.new.host) c.say.result
    (returns-in-Err-clause-cause g c) (returns-in-Err-clause-answers g c)
