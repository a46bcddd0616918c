use Rattle.std.proofs.Common.{◌∙◌}
use Rattle.scopes.proofs.PlainNames.{no_begin}
use Rattle.scopes.proofs.names.asic_plain_name.Goals as goal

pub returns-in_err-plain : goal.returns-in_err-plain
returns-in_err-plain c =
    rw c.from_residual.ensures
    (no_begin c.args.number c.args.name.now c.as_str-2.result.now c.as_str.result.now
    (c.as_str-2.ensures.value ∙ c.asic_begin.ensures.begin) (c.as_str.ensures.value ∙ c.asic_config.ensures) c.if-eq.ensures
    c.in_err-plain.ensures.cases)
