use Rattle.std.proofs.Common.{List, ℕ, ◌++◌, ap, refl}
use Rattle.std.proofs.lemmas.Result.{err_from_is_err_and}
use Rattle.gcu_output.specs.Lines.{last_line}
use Rattle.gcu_output.specs.declared.outcomes.Outcome.TheVariants.{Done}
use Rattle.gcu_requests.specs.Checking.{check_asked}
use Rattle.gcu_requests.proofs.ValidityFinding.{check_of}
use Rattle.command_answers.proofs.Querying.{text_found, text_refused}
use Rattle.reading_commands.proofs.checking.judge_folder.Goals as goal

pub returns-in_err-judge_stored : goal.returns-in_err-judge_stored
returns-in_err-judge_stored g c =
    let p = err_from_is_err_and c.from_residual.result c.from_residual.ensures.1 in
    rw (p.1, p.2)
    (text_refused g.H.Host check_asked c.args.host.now c.judge_stored.new.host c.judge_stored.ensures.reads check_of
    c.in_err-judge_stored.field-0.0 c.in_err-judge_stored.ensures.answer c.in_err-judge_stored.ensures.cause)

pub returns : goal.returns
returns g c =
    text_found g.H.Host check_asked c.args.host.now c.judge_stored.new.host c.judge_stored.ensures.reads check_of
    _ c.new.result c.in_ok-judge_stored.ensures.answer (λ s. refl)
    (ap (λ (t : List ℕ). t ++ last_line Done) c.new.ensures.items)
