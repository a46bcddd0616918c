use Rattle.std.proofs.Common.{List, ℕ, ◌++◌, ap, refl}
use Rattle.std.proofs.lemmas.Result.{err_from_is_err_and}
use Rattle.gcu_output.specs.Lines.{last_line}
use Rattle.gcu_output.specs.declared.outcomes.Outcome.TheVariants.{Done}
use Rattle.gcu_requests.specs.InterruptionAsked.{status_asked}
use Rattle.gcu_requests.specs.IntentView.{status_request}
use Rattle.gcu_inputs.proofs.Reading.{of_files}
use Rattle.command_answers.proofs.Querying.{text_found, text_refused, text_wanting}
use Rattle.reading_commands.proofs.statuses.find_status.Goals as goal

pub returns-in_err-status : goal.returns-in_err-status
returns-in_err-status g c =
    let p = err_from_is_err_and c.from_residual.result c.from_residual.ensures.1 in
    rw (p.1, p.2)
    (text_refused g.H.Host status_asked c.args.host.now c.read_status.new.host (of_files c.read_status.ensures.reads)
    status_request
    c.in_err-status.field-0.0 c.in_err-status.ensures.answer c.in_err-status.ensures.cause)

pub returns-in_err-text : goal.returns-in_err-text
returns-in_err-text g c =
    let p = err_from_is_err_and c.from_residual-in_err-text.result c.from_residual-in_err-text.ensures.1 in
    rw (p.1, p.2)
    (text_wanting g.H.Host status_asked c.args.host.now c.read_status.new.host (of_files c.read_status.ensures.reads))

pub returns : goal.returns
returns g c =
    text_found g.H.Host status_asked c.args.host.now c.read_status.new.host (of_files c.read_status.ensures.reads)
    status_request
    c.in_ok-status.status c.in_ok-text.text c.in_ok-status.ensures.answer (λ s. refl)
    (ap (λ (t : List ℕ). t ++ last_line Done) c.in_ok-text.ensures)
