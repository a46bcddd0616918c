use Rattle.std.proofs.Common.{Ok, Err}
use Rattle.std.proofs.lemmas.Result.{err_from_is_err_and}
use Rattle.gcu_requests.proofs.ValidityFinding.{judged, no_config, no_models}
use Rattle.gcu_requests.proofs.checking.judge_folder.Goals as goal

-- there are no models
pub returns-in_err-models-clause-answer : goal.returns-in_err-models-clause-answer
returns-in_err-models-clause-answer g c =
    let p = err_from_is_err_and c.from_residual.result c.from_residual.ensures.1 in
    rw (p.1, p.2) (no_models (g.H.Host.told c.args.host.now) c.in_err-models.field-0.0 c.in_err-models.ensures.answer)

-- the folder stands for no configuration
pub returns-in_err-config-clause-answer : goal.returns-in_err-config-clause-answer
returns-in_err-config-clause-answer g c =
    let p = err_from_is_err_and c.from_residual-in_err-config.result c.from_residual-in_err-config.ensures.1 in
    rw (p.1, p.2)
    (no_config (g.H.Host.told c.args.host.now)
    c.in_ok-models.models c.in_err-config.field-0.0 c.in_ok-models.ensures.answer
    (rw c.in_ok-models.ensures.reads.state at c.in_err-config.ensures.answer))

-- the configuration isn't valid
pub returns-in_err-judge-clause-answer : goal.returns-in_err-judge-clause-answer
returns-in_err-judge-clause-answer g c =
    let p = err_from_is_err_and c.from_residual-in_err-judge.result c.from_residual-in_err-judge.ensures.1 in
    rw (p.1, p.2)
    (judged (g.H.Host.told c.args.host.now) c.in_ok-models.models c.in_ok-config.config (Err c.in_err-judge.field-0.0)
    c.in_ok-models.ensures.answer
    (rw c.in_ok-models.ensures.reads.state at c.in_ok-config.ensures.answer) c.in_err-judge.ensures.answer
    c.in_err-judge.ensures.cause)

-- it is
pub returns-clause-answer : goal.returns-clause-answer
returns-clause-answer g c =
    judged (g.H.Host.told c.args.host.now) c.in_ok-models.models c.in_ok-config.config (Ok c.in_ok-config.config)
    c.in_ok-models.ensures.answer
    (rw c.in_ok-models.ensures.reads.state at c.in_ok-config.ensures.answer) c.in_ok-judge.ensures.answer tt
