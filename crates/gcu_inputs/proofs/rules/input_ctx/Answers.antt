use Rattle.std.proofs.lemmas.Result.{err_from_is_err_and}
use Rattle.gcu_inputs.proofs.RulesFinding.{ctx_found, no_ctx_models, no_ctx_settings}
use Rattle.gcu_inputs.proofs.rules.input_ctx.Goals as goal

pub returns-in_err-models-clause-answer : goal.returns-in_err-models-clause-answer
returns-in_err-models-clause-answer g c =
    let p = err_from_is_err_and c.from_residual.result c.from_residual.ensures.1 in
    rw (p.1, p.2)
    (no_ctx_models (g.H.Host.told c.args.host.now) c.in_err-models.field-0.0 c.in_err-models.ensures.answer)

pub returns-in_err-settings-clause-answer : goal.returns-in_err-settings-clause-answer
returns-in_err-settings-clause-answer g c =
    let p = err_from_is_err_and c.from_residual-in_err-settings.result c.from_residual-in_err-settings.ensures.1 in
    rw (p.1, p.2)
    (no_ctx_settings (g.H.Host.told c.args.host.now) c.in_ok-models.models c.in_err-settings.field-0.0 c.in_ok-models.ensures.answer
    (rw c.in_ok-models.ensures.reads.state at c.in_err-settings.ensures.answer))

pub returns-clause-answer : goal.returns-clause-answer
returns-clause-answer g c =
    ctx_found (g.H.Host.told c.args.host.now) c.in_ok-models.models c.in_ok-settings.settings
    c.in_ok-models.ensures.answer
    (rw c.in_ok-models.ensures.reads.state at c.in_ok-settings.ensures.answer)
