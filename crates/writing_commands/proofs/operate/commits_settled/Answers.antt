use Rattle.std.proofs.lemmas.Result.{err_from_is_err_and}
use Rattle.command_answers.proofs.PlanSaying.{refuses_ends}
use Rattle.writing_commands.proofs.Readiness.{memory_ends, run_ready, script_missed}
use Rattle.writing_commands.proofs.operate.commits_settled.Goals as goal

-- something is refused
pub returns-in_err-operating-clause-prepared : goal.returns-in_err-operating-clause-prepared
returns-in_err-operating-clause-prepared g c =
    let p = err_from_is_err_and c.from_residual.result c.from_residual.ensures.1 in
    rw (p.1, p.2)
    (script_missed c.args.script.now c.args.budget (g.H.Host.told c.args.host.now) c.in_err-operating.field-0.0
    (g.H.Host.counts c.args.host.now) (g.H.Host.counts c.prepare_script.new.host) c.in_err-operating.ensures.cause
    c.in_err-operating.ensures.answer)

pub returns-in_err-operating-clause-cause : goal.returns-in_err-operating-clause-cause
returns-in_err-operating-clause-cause g c =
    let p = err_from_is_err_and c.from_residual.result c.from_residual.ensures.1 in
    rw (p.1, p.2)
    (refuses_ends (g.H.Host.counts c.args.host.now) (g.H.Host.counts c.prepare_script.new.host)
    c.in_err-operating.field-0.0 c.in_err-operating.ensures.cause)

-- the commits are made ready
pub returns-clause-prepared : goal.returns-clause-prepared
returns-clause-prepared g c =
    run_ready c.args.script.now c.args.budget (g.H.Host.told c.args.host.now) c.in_ok-operating.operating
    c.ready_commits.result
    c.in_ok-operating.ensures.answer c.in_ok-operating.ensures.stands c.ready_commits.ensures.run
    c.ready_commits.ensures.err

pub returns-clause-cause : goal.returns-clause-cause
returns-clause-cause g c =
    memory_ends (g.H.Host.counts c.args.host.now) (g.H.Host.counts c.prepare_script.new.host) c.ready_commits.result
    c.ready_commits.ensures.err
