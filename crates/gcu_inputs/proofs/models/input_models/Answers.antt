use Rattle.std.proofs.lemmas.Result.{err_from_is_err_and}
use Rattle.gcu_inputs.proofs.ModelsFinding.{models_read, no_texts}
use Rattle.gcu_inputs.proofs.Finding.{always_refuses}
use Rattle.gcu_inputs.proofs.models.input_models.Goals as goal

-- there are no texts
pub returns-in_err-texts-clause-answer : goal.returns-in_err-texts-clause-answer
returns-in_err-texts-clause-answer g c =
    let p = err_from_is_err_and c.from_residual.result c.from_residual.ensures.1 in
    rw (p.1, p.2) (no_texts (g.H.Host.told c.args.host.now) c.in_err-texts.field-0.0 c.in_err-texts.ensures.answer)

-- what the texts give
pub returns-clause-answer : goal.returns-clause-answer
returns-clause-answer g c =
    models_read (g.H.Host.told c.args.host.now) c.in_ok-texts.texts c.models_of.result c.in_ok-texts.ensures.answer
    c.models_of.ensures.answer c.models_of.ensures.cause

pub returns-clause-cause : goal.returns-clause-cause
returns-clause-cause g c =
    always_refuses c.models_of.result (g.H.Host.counts c.args.host.now) (g.H.Host.counts c.input_texts.new.host)
    c.models_of.ensures.cause
