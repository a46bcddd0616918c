-- What the operators of a script are told, or what is refused.
use Rattle.std.proofs.Common.{refl}
use Rattle.std.proofs.lemmas.Result.{err_from_is_err_and}
use Rattle.sessions.specs.Runs.{moves_of}
use Rattle.gcu_words.specs.Tasks.{run_script}
use Rattle.gcu_requests.specs.WorkAsked.{dry_run_asked}
use Rattle.command_answers.proofs.PlanSaying.{refuses_ends}
use Rattle.command_answers.proofs.Querying.{text_ended, text_said, text_wanting}
use Rattle.reading_commands.proofs.RehearseSaying.{script_refused, text_says}
use Rattle.reading_commands.proofs.dry_runs.rehearse.Goals as goal

-- something is refused
pub returns-in_err-operating-clause-finds : goal.returns-in_err-operating-clause-finds
returns-in_err-operating-clause-finds g c =
    let p = err_from_is_err_and c.from_residual.result c.from_residual.ensures.1 in
    let host = g.H.Host in
    let old = c.args.host.now in
    let new = c.prepare_script.new.host in
    rw (p.1, p.2)
    (text_ended host (dry_run_asked (run_script c.args.script.now) c.args.budget) old new
    c.prepare_script.ensures.reads c.in_err-operating.field-0.0
    (script_refused c.args.script.now c.args.budget (host.told old) c.in_err-operating.field-0.0 (host.counts old)
    (host.counts new)
    c.in_err-operating.ensures.cause c.in_err-operating.ensures.answer)
    (refuses_ends (host.counts old) (host.counts new) c.in_err-operating.field-0.0 c.in_err-operating.ensures.cause))

-- memory is wanting for what is told
pub returns-in_err-text-clause-finds : goal.returns-in_err-text-clause-finds
returns-in_err-text-clause-finds g c =
    let p = err_from_is_err_and c.from_residual-in_err-text.result c.from_residual-in_err-text.ensures.1 in
    rw (p.1, p.2)
    (text_wanting g.H.Host (dry_run_asked (run_script c.args.script.now) c.args.budget)
    c.args.host.now c.prepare_script.new.host
    c.prepare_script.ensures.reads)

-- the script has run
pub returns-clause-finds : goal.returns-clause-finds
returns-clause-finds g c =
    let o = c.in_ok-text.field-0 in
    text_said g.H.Host (dry_run_asked (run_script c.args.script.now) c.args.budget) c.args.host.now
    c.prepare_script.new.host
    c.prepare_script.ensures.reads o.text
    (text_says c.args.script.now c.args.budget (g.H.Host.told c.args.host.now)
    c.in_ok-operating.operating (moves_of o.world.commits) o.text.items
    c.in_ok-operating.ensures.answer (o.world, c.in_ok-text.ensures.operated, refl))
