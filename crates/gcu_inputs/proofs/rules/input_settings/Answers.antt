use Rattle.std.proofs.lemmas.Result.{err_from_is_err_and}
use Rattle.gcu_inputs.proofs.RulesFinding.{no_rules, rules_found}
use Rattle.gcu_inputs.proofs.rules.input_settings.Goals as goal

pub returns-in_err-bytes-clause-answer : goal.returns-in_err-bytes-clause-answer
returns-in_err-bytes-clause-answer g c =
    let p = err_from_is_err_and c.from_residual-in_err-bytes.result c.from_residual-in_err-bytes.ensures.1 in
    rw (p.1, p.2)
    (no_rules (g.H.Host.told c.args.host.now) c.in_ok-path.path c.in_err-bytes.field-0.0 c.in_ok-path.ensures c.in_err-bytes.ensures.answer)

pub returns-clause-answer : goal.returns-clause-answer
returns-clause-answer g c =
    rules_found (g.H.Host.told c.args.host.now) c.in_ok-path.path c.in_ok-bytes.bytes c.settings_in.result
    c.in_ok-path.ensures c.in_ok-bytes.ensures.answer
    (rw c.items.ensures at c.settings_in.ensures.answer) c.settings_in.ensures.cause
