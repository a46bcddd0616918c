use Rattle.std.proofs.Common.{IfSome, ◌++◌, subst, sym}
use Rattle.std.proofs.lemmas.Result.{err_from_is_err_and}
use Rattle.gcu_words.specs.Tasks.{reach}
use Rattle.gcu_words.specs.Views.{target_view}
use Rattle.gcu_output.specs.Lines.{last_line}
use Rattle.gcu_output.specs.declared.outcomes.Outcome.TheVariants.{Done}
use Rattle.gcu_requests.specs.WorkAsked.{dry_run_asked}
use Rattle.command_answers.specs.Answers.{Says}
use Rattle.command_answers.proofs.Querying.{text_ended, text_said, text_wanting}
use Rattle.reading_commands.proofs.dry_runs.find_way.Goals as goal

-- something is refused, or no plan is found
pub returns-in_err-plan-clause-finds : goal.returns-in_err-plan-clause-finds
returns-in_err-plan-clause-finds g c =
    let p = err_from_is_err_and c.from_residual.result c.from_residual.ensures.1 in
    rw (p.1, p.2)
    (text_ended g.H.Host (dry_run_asked (reach (target_view c.args.target)) c.args.budget)
    c.args.host.now c.solve.new.host
    c.solve.ensures.reads c.in_err-plan.field-0.0 c.in_err-plan.ensures.says c.in_err-plan.ensures.cause)

-- memory is wanting for the text
pub returns-in_err-text-clause-finds : goal.returns-in_err-text-clause-finds
returns-in_err-text-clause-finds g c =
    let p = err_from_is_err_and c.from_residual-in_err-text.result c.from_residual-in_err-text.ensures.1 in
    rw (p.1, p.2)
    (text_wanting g.H.Host (dry_run_asked (reach (target_view c.args.target)) c.args.budget)
    c.args.host.now c.solve.new.host c.solve.ensures.reads)

-- it is written
pub returns-clause-finds : goal.returns-clause-finds
returns-clause-finds g c =
    let asking = dry_run_asked (reach (target_view c.args.target)) c.args.budget in
    text_said g.H.Host asking c.args.host.now c.solve.new.host c.solve.ensures.reads c.in_ok-text.text
    (subst (λ t. IfSome (g.H.Host.told c.args.host.now) (λ s. Says (asking s) s s Done (t ++ last_line Done)))
    (sym c.in_ok-text.ensures) c.in_ok-plan.ensures.says)
