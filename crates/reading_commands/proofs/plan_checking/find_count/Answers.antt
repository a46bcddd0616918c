use Rattle.std.proofs.Common.{List, ℕ, ◌++◌, ap, refl}
use Rattle.std.proofs.lemmas.Result.{err_from_is_err_and}
use Rattle.gcu_output.specs.Lines.{last_line}
use Rattle.gcu_output.specs.declared.outcomes.Outcome.TheVariants.{Done}
use Rattle.gcu_requests.specs.PlanCheckAsked.{check_plan_asked}
use Rattle.gcu_requests.specs.Request.{accept_plan}
use Rattle.command_answers.proofs.Querying.{text_found, text_refused, text_wanting}
use Rattle.reading_commands.proofs.plan_checking.find_count.Goals as goal

pub returns-in_err-count : goal.returns-in_err-count
returns-in_err-count g c =
    let p = err_from_is_err_and c.from_residual.result c.from_residual.ensures.1 in
    rw (p.1, p.2)
    (text_refused g.H.Host (check_plan_asked c.args.patch.now c.args.plan.now)
    c.args.host.now c.judge_plan.new.host c.judge_plan.ensures.reads accept_plan
    c.in_err-count.field-0.0 c.in_err-count.ensures.answer c.in_err-count.ensures.cause)

pub returns-in_err-text : goal.returns-in_err-text
returns-in_err-text g c =
    let p = err_from_is_err_and c.from_residual-in_err-text.result c.from_residual-in_err-text.ensures.1 in
    rw (p.1, p.2)
    (text_wanting g.H.Host (check_plan_asked c.args.patch.now c.args.plan.now)
    c.args.host.now c.judge_plan.new.host c.judge_plan.ensures.reads)

pub returns : goal.returns
returns g c =
    text_found g.H.Host (check_plan_asked c.args.patch.now c.args.plan.now) c.args.host.now c.judge_plan.new.host
    c.judge_plan.ensures.reads accept_plan
    c.in_ok-count.count c.in_ok-text.text c.in_ok-count.ensures.answer (λ s. refl)
    (ap (λ (t : List ℕ). t ++ last_line Done) c.in_ok-text.ensures)
