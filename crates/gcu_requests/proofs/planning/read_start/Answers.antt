use Rattle.std.proofs.Common.{Ok, Err}
use Rattle.std.proofs.lemmas.Result.{err_from_is_err_and}
use Rattle.gcu_inputs.proofs.Finding.{always_refuses}
use Rattle.gcu_requests.proofs.PlanFinding.{no_start, start_found}
use Rattle.gcu_requests.proofs.planning.read_start.Goals as goal

pub returns-in_err-what-clause-answer : goal.returns-in_err-what-clause-answer
returns-in_err-what-clause-answer g c =
    let p = err_from_is_err_and c.from_residual.result c.from_residual.ensures.1 in
    rw (p.1, p.2)
    (no_start (g.H.Host.told c.args.host.now) c.args.ctx.now c.in_err-what.field-0.0 c.in_err-what.ensures.answer)

-- it isn't valid
pub returns-in_err-judge-clause-answer : goal.returns-in_err-judge-clause-answer
returns-in_err-judge-clause-answer g c =
    let p = err_from_is_err_and c.from_residual-in_err-judge.result c.from_residual-in_err-judge.ensures.1 in
    rw (p.1, p.2)
    (start_found (g.H.Host.told c.args.host.now) c.args.ctx.now c.in_ok-what.what (Err c.in_err-judge.field-0.0)
    c.in_ok-what.ensures.answer
    c.in_err-judge.ensures.answer c.in_err-judge.ensures.cause)

pub returns-in_err-judge-clause-cause : goal.returns-in_err-judge-clause-cause
returns-in_err-judge-clause-cause g c =
    let p = err_from_is_err_and c.from_residual-in_err-judge.result c.from_residual-in_err-judge.ensures.1 in
    rw (p.1, p.2)
    (always_refuses {X = Unit {0}} (Err c.in_err-judge.field-0.0) (g.H.Host.counts c.args.host.now)
    (g.H.Host.counts c.read_folder.new.host) c.in_err-judge.ensures.cause)

pub returns-clause-answer : goal.returns-clause-answer
returns-clause-answer g c =
    start_found (g.H.Host.told c.args.host.now) c.args.ctx.now c.in_ok-what.what (Ok c.in_ok-what.what)
    c.in_ok-what.ensures.answer c.in_ok-judge.ensures.answer tt
