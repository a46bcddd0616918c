use Rattle.std.proofs.Common.{◌∙◌, sym, ap, Some}
use Rattle.yang_pattern.specs.Symbols.{symbol_accepts}
use Rattle.yang_pattern.proofs.Parsing.{element_at}
use Rattle.yang_pattern.proofs.walks.reads_token.Goals as goal

pub returns-in-Some-Symbol : goal.returns-in-Some-Symbol
returns-in-Some-Symbol c =
    let token = c.in-Some-Symbol.field-0.now in
    let at = c.in-Some-Symbol.ensures.lookup in
    c.accepts.ensures
    ∙ sym (ap (λ o. symbol_accepts o c.args.c)
    (element_at c.args.tokens.now c.args.number token at.3.0 ∙ ap Some (sym at.1 ∙ c.in-Some-Symbol.field-0-is)))
