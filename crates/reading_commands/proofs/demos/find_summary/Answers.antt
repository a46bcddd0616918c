-- The counts of a demonstration, or what is refused, or that there is no plan.
use Rattle.std.proofs.Common.{Err, Ok, IfSome, ◌++◌, subst, sym, ◌∙◌, ap}
use Rattle.std.proofs.lemmas.Result.{err_from_is_err_and}
use Rattle.gcu_output.specs.Lines.{last_line}
use Rattle.gcu_output.specs.declared.outcomes.Outcome.TheVariants.{Done}
use Rattle.gcu_requests.specs.DemoAsked.{demo_asked}
use Rattle.command_answers.specs.Answers.{Says}
use Rattle.command_answers.specs.Summary.{summary}
use Rattle.command_answers.proofs.PlanSaying.{refuses_ends, solved_ends}
use Rattle.command_answers.proofs.Querying.{text_ended, text_said, text_wanting}
use Rattle.reading_commands.proofs.DemoSaying.{steps_refused, steps_say}
use Rattle.reading_commands.proofs.demos.find_summary.Goals as goal

-- something is refused
pub returns-in_err-planning-clause-finds : goal.returns-in_err-planning-clause-finds
returns-in_err-planning-clause-finds g c =
    let p = err_from_is_err_and c.from_residual.result c.from_residual.ensures.1 in
    let host = g.H.Host in
    let old = c.args.host.now in
    let new = c.prepare_demo.new.host in
    rw (p.1, p.2)
    (text_ended host (demo_asked c.args.size.seed c.args.size.ports) old new
    c.prepare_demo.ensures.reads c.in_err-planning.field-0.0
    (steps_refused (host.told old) c.args.size.seed c.args.size.ports c.in_err-planning.field-0.0 (host.counts old)
    (host.counts new)
    c.in_err-planning.ensures.cause c.in_err-planning.ensures.answer)
    (refuses_ends (host.counts old) (host.counts new) c.in_err-planning.field-0.0 c.in_err-planning.ensures.cause))

-- a plan is searched for, and none is found
pub returns-in_err-plan-clause-finds : goal.returns-in_err-plan-clause-finds
returns-in_err-plan-clause-finds g c =
    let p = err_from_is_err_and c.from_residual-in_err-plan.result c.from_residual-in_err-plan.ensures.1 in
    let host = g.H.Host in
    let old = c.args.host.now in
    let new = c.prepare_demo.new.host in
    rw (p.1, p.2)
    (text_ended host (demo_asked c.args.size.seed c.args.size.ports) old new
    c.prepare_demo.ensures.reads c.in_err-plan.field-0.0
    (steps_say (host.told old)
    c.args.size.seed c.args.size.ports c.in_ok-planning.planning (Err c.in_err-plan.field-0.0)
    c.in_ok-planning.ensures.answer c.in_err-plan.ensures.answer)
    (solved_ends c.in_ok-planning.planning (Err c.in_err-plan.field-0.0) (host.counts old) (host.counts new)
    c.in_err-plan.ensures.answer))

-- memory is wanting for the text
pub returns-in_err-text-clause-finds : goal.returns-in_err-text-clause-finds
returns-in_err-text-clause-finds g c =
    let p = err_from_is_err_and c.from_residual-in_err-text.result c.from_residual-in_err-text.ensures.1 in
    rw (p.1, p.2)
    (text_wanting g.H.Host (demo_asked c.args.size.seed c.args.size.ports)
    c.args.host.now c.prepare_demo.new.host c.prepare_demo.ensures.reads)

-- its steps are counted
pub returns-clause-finds : goal.returns-clause-finds
returns-clause-finds g c =
    let asking = demo_asked c.args.size.seed c.args.size.ports in
    let told = g.H.Host.told c.args.host.now in
    let is = c.in_ok-text.ensures ∙ ap (λ n. summary c.args.size.ports n) c.len.ensures in
    text_said g.H.Host asking c.args.host.now c.prepare_demo.new.host c.prepare_demo.ensures.reads c.in_ok-text.text
    (subst (λ t. IfSome told (λ s. Says (asking s) s s Done (t ++ last_line Done))) (sym is)
    (steps_say told c.args.size.seed c.args.size.ports c.in_ok-planning.planning (Ok c.in_ok-plan.plan)
    c.in_ok-planning.ensures.answer c.in_ok-plan.ensures.answer))
