use Rattle.std.proofs.Common.{◌++◌, arith, map}
use Rattle.gcu_output.specs.Lines.{last_line}
use Rattle.gcu_output.specs.declared.outcomes.Outcome.TheVariants.{Done}
use Rattle.command_answers.specs.ScopeTexts.{plan_scopes_asked, scopes_text}
use Rattle.scope_commands.specs.SolvedScopes.{scope_plan}
use Rattle.command_answers.proofs.Answering.{refused_cause, said_to}
use Rattle.command_answers.proofs.Causes.{done_cause, said_cause}
use Rattle.command_answers.proofs.Completing.{completes}
use Rattle.scope_commands.proofs.ScopesSolving.{fell_on, plans_say, refusal_says, still_left}
use Rattle.scope_commands.proofs.plan_scopes.plan_settled.Goals as goal

pub returns-in-Ok-clause-cause : goal.returns-in-Ok-clause-cause
returns-in-Ok-clause-cause g c =
    done_cause (g.H.Host.counts c.args.host.now) (g.H.Host.counts c.solve_scopes.new.host)
    (g.H.Host.counts c.show_plans.new.host) c.solve_scopes.ensures.counts c.show_plans.ensures.counts
    (scopes_text (map scope_plan c.in-Ok.plans) ++ last_line Done) (g.H.Host.told c.solve_scopes.new.host)
    (g.H.Host.told c.show_plans.new.host) c.show_plans.result c.show_plans.ensures.said

pub returns-in-Err-clause-cause : goal.returns-in-Err-clause-cause
returns-in-Err-clause-cause g c =
    said_cause (g.H.Host.counts c.args.host.now) (g.H.Host.counts c.solve_scopes.new.host)
    (g.H.Host.counts c.say.new.host) c.solve_scopes.ensures.counts c.say.ensures.counts
    c.in-Err.outcome (g.H.Host.told c.solve_scopes.new.host) (g.H.Host.told c.say.new.host)
    c.say.result c.in-Err.ensures.cause c.say.ensures.said

pub returns-in-Ok-clause-prints : goal.returns-in-Ok-clause-prints
returns-in-Ok-clause-prints g c =
    let asking = plan_scopes_asked c.args.change.patch.now c.args.change.options.budget in
    let text = scopes_text (map scope_plan c.in-Ok.plans) ++ last_line Done in
    let says = plans_say (g.H.Host.told c.args.host.now)
    c.args.change.patch.now c.args.change.options.budget c.in-Ok.plans c.in-Ok.ensures.answer in
    let answers = said_to asking (g.H.Host.told c.args.host.now) (g.H.Host.told c.show_plans.new.host)
    (g.H.Host.counts c.args.host.now) (g.H.Host.counts c.solve_scopes.new.host)
    (g.H.Host.counts c.show_plans.new.host)
    Done text c.show_plans.result (rw c.in-Ok.ensures.still.tells at c.show_plans.ensures.said)
    c.show_plans.ensures.counts tt says in
    record {
      answers = answers;
      later = omega (arith, c.in-Ok.ensures.still.later, c.show_plans.ensures.time.later);
      crash = still_left g.H.Host.told g.H.Host.moment g.H.Host.left_since asking
          c.args.host.now c.solve_scopes.new.host c.show_plans.new.host
          Done text c.in-Ok.ensures.still c.show_plans.ensures.time says;
      complete = completes asking (g.H.Host.told c.args.host.now) (g.H.Host.told c.show_plans.new.host)
          (g.H.Host.counts c.args.host.now) (g.H.Host.counts c.show_plans.new.host) c.show_plans.result
          (returns-in-Ok-clause-cause g c) answers;
      none_fell = fell_on (g.H.Host.counts c.args.host.now) (g.H.Host.counts c.solve_scopes.new.host)
          (g.H.Host.counts c.show_plans.new.host) c.solve_scopes.ensures.counts c.show_plans.ensures.counts;
    }

pub returns-in-Err-clause-prints : goal.returns-in-Err-clause-prints
returns-in-Err-clause-prints g c =
    let asking = plan_scopes_asked c.args.change.patch.now c.args.change.options.budget in
    let says = refusal_says (g.H.Host.told c.args.host.now)
    c.args.change.patch.now c.args.change.options.budget c.in-Err.outcome (g.H.Host.counts c.args.host.now)
    (g.H.Host.counts c.solve_scopes.new.host) c.in-Err.ensures.cause c.in-Err.ensures.answer in
    let answers = said_to asking (g.H.Host.told c.args.host.now) (g.H.Host.told c.say.new.host)
    (g.H.Host.counts c.args.host.now) (g.H.Host.counts c.solve_scopes.new.host) (g.H.Host.counts c.say.new.host)
    c.in-Err.outcome (last_line c.in-Err.outcome) c.say.result (rw c.in-Err.ensures.still.tells at c.say.ensures.said)
    c.say.ensures.counts
    (refused_cause (g.H.Host.counts c.args.host.now) (g.H.Host.counts c.solve_scopes.new.host)
    c.in-Err.outcome c.in-Err.ensures.cause) says in
    record {
      answers = answers;
      later = omega (arith, c.in-Err.ensures.still.later, c.say.ensures.time.later);
      crash = still_left g.H.Host.told g.H.Host.moment g.H.Host.left_since asking
          c.args.host.now c.solve_scopes.new.host c.say.new.host
          c.in-Err.outcome (last_line c.in-Err.outcome) c.in-Err.ensures.still c.say.ensures.time says;
      complete = completes asking (g.H.Host.told c.args.host.now) (g.H.Host.told c.say.new.host)
          (g.H.Host.counts c.args.host.now) (g.H.Host.counts c.say.new.host) c.say.result
          (returns-in-Err-clause-cause g c) answers;
      none_fell = fell_on (g.H.Host.counts c.args.host.now) (g.H.Host.counts c.solve_scopes.new.host)
          (g.H.Host.counts c.say.new.host) c.solve_scopes.ensures.counts c.say.ensures.counts;
    }

pub returns-in-Ok-clause-goes : goal.returns-in-Ok-clause-goes
returns-in-Ok-clause-goes g c =
    g.met.H.Host.continues c.args.host.now c.solve_scopes.new.host c.show_plans.new.host c.solve_scopes.ensures.goes
    c.show_plans.ensures.goes

pub returns-in-Err-clause-goes : goal.returns-in-Err-clause-goes
returns-in-Err-clause-goes g c =
    g.met.H.Host.continues c.args.host.now c.solve_scopes.new.host c.say.new.host c.solve_scopes.ensures.goes
    c.say.ensures.goes
