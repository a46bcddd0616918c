-- The last line of a change given up, or not.
use Rattle.gcu_output.specs.Printing.{outcome_of}
use Rattle.gcu_requests.specs.InterruptionAsked.{abandon_asked}
use Rattle.command_answers.proofs.Causes.{disk_fell, ended_cause}
use Rattle.command_answers.proofs.Completing.{completes}
use Rattle.command_answers.proofs.Elapsing.{asking_prints}
use Rattle.writing_commands.proofs.SettledWrites.{told_settles}
use Rattle.writing_commands.proofs.Unwritten.{unwritten_tells}
use Rattle.writing_commands.proofs.Writing.{comes_first, outcome_cause, told_answers}
use Rattle.writing_commands.proofs.giving_up.abandon.Goals as goal

pub tell-requires : goal.tell-requires
tell-requires g c =
    comes_first (g.H.Host.counts c.args.host.now) (g.H.Host.counts c.give_up-done.new.host) c.give_up-done.result
    c.give_up-done.ensures.cause

pub returns-clause-cause : goal.returns-clause-cause
returns-clause-cause g c =
    ended_cause (g.H.Host.counts c.args.host.now) (g.H.Host.counts c.give_up-done.new.host)
    (g.H.Host.counts c.tell.new.host)
    (disk_fell (g.H.Host.counts c.args.host.now) (g.H.Host.counts c.give_up-done.new.host) c.give_up-done.ensures.counts) c.tell.ensures.counts
    c.give_up-done.result (g.H.Host.told c.give_up-done.new.host) (g.H.Host.told c.tell.new.host) c.tell.result
    c.give_up-done.ensures.cause c.tell.ensures.told

pub returns-clause-answers : goal.returns-clause-answers
returns-clause-answers g c =
    told_answers abandon_asked (g.H.Host.told c.args.host.now) (g.H.Host.told c.give_up-done.new.host)
    (g.H.Host.told c.tell.new.host)
    (g.H.Host.counts c.args.host.now) (g.H.Host.counts c.give_up-done.new.host) (g.H.Host.counts c.tell.new.host)
    (outcome_of c.give_up-done.result) c.tell.result
    c.give_up-done.ensures.left c.tell.ensures.told c.tell.ensures.counts
    (outcome_cause (g.H.Host.counts c.args.host.now) (g.H.Host.counts c.give_up-done.new.host) c.give_up-done.result c.give_up-done.ensures.cause)

pub returns-clause-crash : goal.returns-clause-crash
returns-clause-crash g c =
    asking_prints g.H.Host.moment g.H.Host.left_since abandon_asked c.args.host.now c.give_up-done.new.host
    c.tell.new.host
    (g.H.Host.told c.args.host.now) (g.H.Host.told c.give_up-done.new.host)
    (outcome_of c.give_up-done.result) c.give_up-done.ensures.left
    c.give_up-done.ensures.crash
    (λ left later may. g.met.H.Host.counts_now c.give_up-done.new.host (g.H.Host.moment c.args.host.now) left later may) c.tell.ensures.time

pub returns-clause-early : goal.returns-clause-early
returns-clause-early g c = λ refusal.
    unwritten_tells g.H.Host.moment g.H.Host.left_since abandon_asked (g.H.Host.told c.args.host.now)
    (g.H.Host.told c.give_up-done.new.host) (g.H.Host.told c.tell.new.host) c.give_up-done.result
    (g.H.Host.counts c.args.host.now) (g.H.Host.counts c.give_up-done.new.host)
    (g.H.Host.counts c.give_up-done.new.host) (g.H.Host.counts c.tell.new.host) c.tell.result
    c.args.host.now c.give_up-done.new.host c.tell.new.host c.give_up-done.ensures.left c.give_up-done.ensures.cause
    c.give_up-done.ensures.early c.tell.ensures.told c.tell.ensures.time refusal

pub returns-clause-settles : goal.returns-clause-settles
returns-clause-settles g c =
    told_settles g.H.Host.moment g.H.Host.left_since abandon_asked (g.H.Host.told c.args.host.now)
    (g.H.Host.told c.give_up-done.new.host) (outcome_of c.give_up-done.result) c.args.host.now c.give_up-done.new.host
    c.tell.new.host c.give_up-done.ensures.crash.later
    (λ left since. g.met.H.Host.only_now c.give_up-done.new.host left since)
    (λ left later may. g.met.H.Host.counts_now c.give_up-done.new.host (g.H.Host.moment c.give_up-done.new.host) left later may)
    c.give_up-done.ensures.settles c.tell.ensures.time

pub returns-clause-complete : goal.returns-clause-complete
returns-clause-complete g c =
    completes abandon_asked (g.H.Host.told c.args.host.now) (g.H.Host.told c.tell.new.host)
    (g.H.Host.counts c.args.host.now) (g.H.Host.counts c.tell.new.host) c.tell.result
    (returns-clause-cause g c) (returns-clause-answers g c)
