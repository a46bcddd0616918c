-- A task whose name is refused, or that is done.
use Rattle.std.proofs.Common.{inl, Err}
use Rattle.gcu_words.specs.FormView.{task_view}
use Rattle.gcu_output.specs.Lines.{last_line}
use Rattle.gcu_requests.specs.WorkAsked.{change_asked}
use Rattle.gcu_inputs.proofs.Finding.{always_refuses}
use Rattle.command_answers.proofs.Answering.{refused_cause, said_to}
use Rattle.writing_commands.proofs.Naming.{answers_wider, complete_wider, early_wider, leaves_wider, misnamed_says, settles_wider}
use Rattle.writing_commands.proofs.Readiness.{early_leaves, refused_early}
use Rattle.writing_commands.proofs.changing.change.Goals as goal

-- ---- a target that isn't refused

pub returns-in-Ok-clause-answers : goal.returns-in-Ok-clause-answers
returns-in-Ok-clause-answers g c =
    answers_wider (task_view c.args.task) c.args.budget (g.H.Host.told c.args.host.now)
    (g.H.Host.told c.change_named.new.host)
    (g.H.Host.counts c.args.host.now) (g.H.Host.counts c.change_named.new.host) c.change_named.result
    c.in-Ok.ensures.answer c.change_named.ensures.answers

pub returns-in-Ok-clause-crash : goal.returns-in-Ok-clause-crash
returns-in-Ok-clause-crash g c =
    leaves_wider g.H.Host.moment g.H.Host.left_since (task_view c.args.task) c.args.budget
    (g.H.Host.told c.args.host.now)
    c.args.host.now c.change_named.new.host c.in-Ok.ensures.answer c.change_named.ensures.crash

pub returns-in-Ok-clause-early : goal.returns-in-Ok-clause-early
returns-in-Ok-clause-early g c = λ refusal.
    early_wider g.H.Host.moment g.H.Host.left_since (task_view c.args.task) c.args.budget
    (g.H.Host.told c.args.host.now)
    c.args.host.now c.change_named.new.host c.in-Ok.ensures.answer (c.change_named.ensures.early refusal)

pub returns-in-Ok-clause-settles : goal.returns-in-Ok-clause-settles
returns-in-Ok-clause-settles g c =
    settles_wider g.H.Host.moment g.H.Host.left_since (task_view c.args.task) c.args.budget
    (g.H.Host.told c.args.host.now)
    c.args.host.now c.change_named.new.host c.in-Ok.ensures.answer c.change_named.ensures.settles

pub returns-in-Ok-clause-complete : goal.returns-in-Ok-clause-complete
returns-in-Ok-clause-complete g c =
    complete_wider (task_view c.args.task) c.args.budget (g.H.Host.told c.args.host.now)
    (g.H.Host.counts c.args.host.now) (g.H.Host.counts c.change_named.new.host) c.change_named.result
    c.in-Ok.ensures.answer c.change_named.ensures.complete

-- ---- a name is refused

pub returns-in-Err-clause-answers : goal.returns-in-Err-clause-answers
returns-in-Err-clause-answers g c =
    let refuses = always_refuses {X = Unit {0}} (Err c.in-Err.outcome) (g.H.Host.counts c.args.host.now)
    (g.H.Host.counts c.args.host.now) c.in-Err.ensures.cause in
    said_to (change_asked (task_view c.args.task) c.args.budget) (g.H.Host.told c.args.host.now)
    (g.H.Host.told c.say.new.host)
    (g.H.Host.counts c.args.host.now) (g.H.Host.counts c.args.host.now) (g.H.Host.counts c.say.new.host)
    c.in-Err.outcome (last_line c.in-Err.outcome) c.say.result c.say.ensures.said c.say.ensures.counts
    (refused_cause (g.H.Host.counts c.args.host.now) (g.H.Host.counts c.args.host.now) c.in-Err.outcome refuses)
    (misnamed_says (g.H.Host.told c.args.host.now) (task_view c.args.task) c.args.budget c.in-Err.outcome
    (g.H.Host.counts c.args.host.now) (g.H.Host.counts c.args.host.now) c.in-Err.ensures.answer c.in-Err.ensures.cause
    refuses)

pub returns-in-Err-clause-early : goal.returns-in-Err-clause-early
returns-in-Err-clause-early g c = λ refusal.
    refused_early (change_asked (task_view c.args.task) c.args.budget) g.H.Host.moment g.H.Host.left_since
    (g.H.Host.told c.args.host.now) c.in-Err.outcome c.args.host.now c.say.new.host
    (misnamed_says (g.H.Host.told c.args.host.now) (task_view c.args.task) c.args.budget c.in-Err.outcome
    (g.H.Host.counts c.args.host.now) (g.H.Host.counts c.args.host.now) c.in-Err.ensures.answer c.in-Err.ensures.cause
    (always_refuses {X = Unit {0}} (Err c.in-Err.outcome) (g.H.Host.counts c.args.host.now)
    (g.H.Host.counts c.args.host.now) c.in-Err.ensures.cause))
    (λ left since. g.met.H.Host.only_now c.args.host.now left since) c.say.ensures.time

pub returns-in-Err-clause-settles : goal.returns-in-Err-clause-settles
returns-in-Err-clause-settles g c =
    inl (refused_early (change_asked (task_view c.args.task) c.args.budget) g.H.Host.moment g.H.Host.left_since
    (g.H.Host.told c.args.host.now) c.in-Err.outcome c.args.host.now c.say.new.host
    (misnamed_says (g.H.Host.told c.args.host.now) (task_view c.args.task) c.args.budget c.in-Err.outcome
    (g.H.Host.counts c.args.host.now) (g.H.Host.counts c.args.host.now) c.in-Err.ensures.answer c.in-Err.ensures.cause
    (always_refuses {X = Unit {0}} (Err c.in-Err.outcome) (g.H.Host.counts c.args.host.now)
    (g.H.Host.counts c.args.host.now) c.in-Err.ensures.cause))
    (λ left since. g.met.H.Host.only_now c.args.host.now left since) c.say.ensures.time)

pub returns-in-Err-clause-crash : goal.returns-in-Err-clause-crash
returns-in-Err-clause-crash g c =
    early_leaves (change_asked (task_view c.args.task) c.args.budget) g.H.Host.moment g.H.Host.left_since
    (g.H.Host.told c.args.host.now) c.args.host.now c.say.new.host
    (refused_early (change_asked (task_view c.args.task) c.args.budget)
    g.H.Host.moment g.H.Host.left_since (g.H.Host.told c.args.host.now)
    c.in-Err.outcome c.args.host.now c.say.new.host
    (misnamed_says (g.H.Host.told c.args.host.now) (task_view c.args.task) c.args.budget c.in-Err.outcome
    (g.H.Host.counts c.args.host.now) (g.H.Host.counts c.args.host.now) c.in-Err.ensures.answer c.in-Err.ensures.cause
    (always_refuses {X = Unit {0}} (Err c.in-Err.outcome) (g.H.Host.counts c.args.host.now)
    (g.H.Host.counts c.args.host.now) c.in-Err.ensures.cause))
    (λ left since. g.met.H.Host.only_now c.args.host.now left since) c.say.ensures.time)
