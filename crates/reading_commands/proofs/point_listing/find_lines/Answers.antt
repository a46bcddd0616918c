use Rattle.std.proofs.Common.{List, ℕ, ◌++◌, ap, map, refl}
use Rattle.std.proofs.lemmas.Result.{err_from_is_err_and}
use Rattle.gcu_output.specs.Lines.{last_line}
use Rattle.gcu_output.specs.declared.outcomes.Outcome.TheVariants.{Done}
use Rattle.checkpoints.specs.Answers.{numbered_view}
use Rattle.gcu_requests.specs.Asked.{list_asked}
use Rattle.gcu_requests.specs.Request.{list_checkpoints}
use Rattle.gcu_inputs.proofs.Reading.{of_files}
use Rattle.command_answers.proofs.Querying.{text_found, text_refused, text_wanting}
use Rattle.reading_commands.proofs.point_listing.find_lines.Goals as goal

pub returns-in_err-all : goal.returns-in_err-all
returns-in_err-all g c =
    let p = err_from_is_err_and c.from_residual.result c.from_residual.ensures.1 in
    rw (p.1, p.2)
    (text_refused g.H.Host list_asked c.args.host.now c.find_numbers.new.host (of_files c.find_numbers.ensures.reads)
    (λ all. list_checkpoints (map numbered_view all))
    c.in_err-all.field-0.0 c.in_err-all.ensures.answer c.in_err-all.ensures.cause)

pub returns-in_err-text : goal.returns-in_err-text
returns-in_err-text g c =
    let p = err_from_is_err_and c.from_residual-in_err-text.result c.from_residual-in_err-text.ensures.1 in
    rw (p.1, p.2)
    (text_wanting g.H.Host list_asked c.args.host.now c.find_numbers.new.host (of_files c.find_numbers.ensures.reads))

pub returns : goal.returns
returns g c =
    text_found g.H.Host list_asked c.args.host.now c.find_numbers.new.host (of_files c.find_numbers.ensures.reads)
    (λ all. list_checkpoints (map numbered_view all))
    c.in_ok-all.all c.in_ok-text.text c.in_ok-all.ensures.answer (λ s. refl)
    (ap (λ (t : List ℕ). t ++ last_line Done) (rw c.items.ensures at c.in_ok-text.ensures))
