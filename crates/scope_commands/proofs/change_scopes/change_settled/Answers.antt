use Rattle.std.proofs.Common.{arith}
use Rattle.gcu_output.specs.Lines.{last_line}
use Rattle.gcu_requests.proofs.ViewEnds.{still_clean}
use Rattle.scope_commands.specs.ScopeWorks.{refused_asked}
use Rattle.command_answers.proofs.Answering.{refused_cause, said_to}
use Rattle.command_answers.proofs.Causes.{said_cause}
use Rattle.writing_commands.proofs.Changes.{cause_from}
use Rattle.command_answers.proofs.Completing.{completes}
use Rattle.scope_commands.proofs.ScopesDoing.{done_answers, done_complete, done_left, fell_further, refused_answers, refused_complete, refused_left}
use Rattle.scope_commands.proofs.ScopeIntents.{are_closed}
use Rattle.scope_commands.proofs.ScopeReadiness.{are_ready}
use Rattle.scope_commands.proofs.ScopesIdle.{refused_keeps}
use Rattle.scope_commands.proofs.ScopesSolving.{fell_on, still_left}
use Rattle.scope_commands.proofs.change_scopes.change_settled.Goals as goal

-- ---- all is ready

pub do_scopes-requires-clause-clean : goal.do_scopes-requires-clause-clean
do_scopes-requires-clause-clean g c =
    still_clean (g.H.Host.told c.args.host.now) (g.H.Host.told c.make_ready.new.host)
    c.in-Ok.ensures.still.tells c.requires.clean

pub do_scopes-requires-clause-stands : goal.do_scopes-requires-clause-stands
do_scopes-requires-clause-stands g c =
    are_ready c.args.change.patch.now c.args.change.options.budget (g.H.Host.told c.args.host.now)
    (g.H.Host.told c.make_ready.new.host) c.in-Ok.ready.changes
    c.in-Ok.ensures.still.tells c.in-Ok.ensures.works

pub do_scopes-requires-clause-closed : goal.do_scopes-requires-clause-closed
do_scopes-requires-clause-closed g c =
    are_closed c.args.change.patch.now c.args.change.options.budget (g.H.Host.told c.args.host.now)
    (g.H.Host.told c.make_ready.new.host) c.in-Ok.ready.changes
    c.in-Ok.ensures.still.tells c.in-Ok.ensures.works

pub returns-in-Ok-clause-cause : goal.returns-in-Ok-clause-cause
returns-in-Ok-clause-cause g c =
    cause_from (g.H.Host.counts c.args.host.now) (g.H.Host.counts c.make_ready.new.host)
    (g.H.Host.counts c.do_scopes.new.host) c.do_scopes.result
    c.make_ready.ensures.counts c.do_scopes.ensures.cause

pub returns-in-Ok-clause-does : goal.returns-in-Ok-clause-does
returns-in-Ok-clause-does g c =
    let path = c.args.change.patch.now in
    let budget = c.args.change.options.budget in
    let works = c.in-Ok.ready.changes in
    record {
      answers = done_answers path budget (g.H.Host.told c.args.host.now) (g.H.Host.told c.make_ready.new.host)
          (g.H.Host.told c.do_scopes.new.host) works
          (g.H.Host.counts c.args.host.now) (g.H.Host.counts c.make_ready.new.host)
          (g.H.Host.counts c.do_scopes.new.host) c.do_scopes.result
          c.in-Ok.ensures.still.tells c.in-Ok.ensures.works c.do_scopes.ensures.answers c.make_ready.ensures.counts;
      later = omega (arith, c.in-Ok.ensures.still.later, c.do_scopes.ensures.later);
      crash = done_left g.H.Host.told g.H.Host.moment g.H.Host.left_since path budget
          c.args.host.now c.make_ready.new.host c.do_scopes.new.host works
          c.in-Ok.ensures.still c.in-Ok.ensures.works c.do_scopes.ensures.any_moment;
      refused = λ any. absurd (c.do_scopes.ensures.works any);
      complete = done_complete path budget (g.H.Host.told c.args.host.now) works (g.H.Host.counts c.args.host.now)
          (g.H.Host.counts c.do_scopes.new.host) c.do_scopes.result
          c.in-Ok.ensures.works (returns-in-Ok-clause-cause g c) c.do_scopes.ensures.works;
      none_fell = fell_further (g.H.Host.counts c.args.host.now) (g.H.Host.counts c.make_ready.new.host)
          (g.H.Host.counts c.do_scopes.new.host) c.make_ready.ensures.counts c.do_scopes.ensures.counts;
    }

pub returns-in-Ok-clause-goes : goal.returns-in-Ok-clause-goes
returns-in-Ok-clause-goes g c =
    g.met.H.Host.continues c.args.host.now c.make_ready.new.host c.do_scopes.new.host c.make_ready.ensures.goes
    c.do_scopes.ensures.goes

-- ---- something is refused

pub returns-in-Err-clause-cause : goal.returns-in-Err-clause-cause
returns-in-Err-clause-cause g c =
    said_cause (g.H.Host.counts c.args.host.now) (g.H.Host.counts c.make_ready.new.host)
    (g.H.Host.counts c.say.new.host) c.make_ready.ensures.counts c.say.ensures.counts
    c.in-Err.outcome (g.H.Host.told c.make_ready.new.host) (g.H.Host.told c.say.new.host)
    c.say.result c.in-Err.ensures.cause c.say.ensures.said

pub returns-in-Err-clause-does : goal.returns-in-Err-clause-does
returns-in-Err-clause-does g c =
    let path = c.args.change.patch.now in
    let budget = c.args.change.options.budget in
    let asking = refused_asked path budget in
    let says = c.in-Err.ensures.refused in
    let answers = said_to asking (g.H.Host.told c.args.host.now) (g.H.Host.told c.say.new.host)
    (g.H.Host.counts c.args.host.now) (g.H.Host.counts c.make_ready.new.host) (g.H.Host.counts c.say.new.host)
    c.in-Err.outcome (last_line c.in-Err.outcome) c.say.result (rw c.in-Err.ensures.still.tells at c.say.ensures.said)
    c.say.ensures.counts
    (refused_cause (g.H.Host.counts c.args.host.now) (g.H.Host.counts c.make_ready.new.host)
    c.in-Err.outcome c.in-Err.ensures.cause) says in
    let unwritten = still_left g.H.Host.told g.H.Host.moment g.H.Host.left_since asking c.args.host.now
    c.make_ready.new.host c.say.new.host
    c.in-Err.outcome (last_line c.in-Err.outcome) c.in-Err.ensures.still c.say.ensures.time says in
    record {
      answers = refused_answers path budget (g.H.Host.told c.args.host.now) (g.H.Host.told c.say.new.host)
          (g.H.Host.counts c.args.host.now) (g.H.Host.counts c.say.new.host) c.say.result answers;
      later = omega (arith, c.in-Err.ensures.still.later, c.say.ensures.time.later);
      crash = λ left since. refused_left path budget (g.H.Host.told c.args.host.now) left (unwritten left since);
      refused =
          λ any left since. refused_keeps path budget (g.H.Host.told c.args.host.now) left c.requires.clean
          (unwritten left since);
      complete = refused_complete path budget (g.H.Host.told c.args.host.now) (g.H.Host.counts c.args.host.now)
          (g.H.Host.counts c.say.new.host) c.say.result
          (completes asking (g.H.Host.told c.args.host.now) (g.H.Host.told c.say.new.host)
          (g.H.Host.counts c.args.host.now) (g.H.Host.counts c.say.new.host) c.say.result
          (returns-in-Err-clause-cause g c) answers);
      none_fell = fell_on (g.H.Host.counts c.args.host.now) (g.H.Host.counts c.make_ready.new.host)
          (g.H.Host.counts c.say.new.host) c.make_ready.ensures.counts c.say.ensures.counts;
    }

pub returns-in-Err-clause-goes : goal.returns-in-Err-clause-goes
returns-in-Err-clause-goes g c =
    g.met.H.Host.continues c.args.host.now c.make_ready.new.host c.say.new.host c.make_ready.ensures.goes
    c.say.ensures.goes
