use Rattle.std.proofs.Common.{◌≡◌, Some, None, ap, sym, ◌∙◌, lit<}
use Rattle.std.proofs.lemmas.Bool.{eqb-false}
use Rattle.std.proofs.lemmas.Str.Pattern.{strip_prefix_char}
use Rattle.std.proofs.lemmas.Result.{err_from_is_err_and}
use Rattle.patch_core.specs.Tokens.{or_malformed}
use Rattle.patch_core.specs.declared.errors.PointerError.TheVariants.{Malformed}
use Rattle.patch_core.proofs.Escapes.{or_malformed_ok}
use Rattle.patch_core.proofs.RoundTrip.{pointer-tokens, tokens-none, pointer-none, tokens-slash, malformed_below}
use Rattle.patch_core.proofs.pointers.read_pointer.Goals as goal

pub returns-in_default-clause-malformed : goal.returns-in_default-clause-malformed
returns-in_default-clause-malformed c =
    let text = c.args.text.now in
    λ _. pointer-none text (tokens-none text (eqb-false _ 0 (sym c.is_empty.ensures ∙ c.if-is_empty.false)) (strip_prefix_char 47 text None c.in_default.ensures.cases (lit< tt)))

pub returns-in_default-clause-decoded : goal.returns-in_default-clause-decoded
returns-in_default-clause-decoded c =
    let text = c.args.text.now in
    ap or_malformed (tokens-none text (eqb-false _ 0 (sym c.is_empty.ensures ∙ c.if-is_empty.false)) (strip_prefix_char 47 text None c.in_default.ensures.cases (lit< tt)))

pub returns-in_err-tokens-clause-malformed : goal.returns-in_err-tokens-clause-malformed
returns-in_err-tokens-clause-malformed c =
    let text = c.args.text.now in
    let p = err_from_is_err_and c.from_residual.result c.from_residual.ensures.1 in
    λ h.
    let same : c.in_err-tokens.field-0.0 ≡ Malformed = cc in
    pointer-none text (malformed_below c.in_err-tokens.field-0.0 text c.in-Some.rest.now (strip_prefix_char 47 text (Some c.in-Some.rest) c.in-Some.ensures.cases (lit< tt)) c.in_err-tokens.ensures same)

pub returns-clause-read : goal.returns-clause-read
returns-clause-read c =
    let text = c.args.text.now in
    let is = strip_prefix_char 47 text (Some c.in-Some.rest) c.in-Some.ensures.cases (lit< tt) in
    pointer-tokens text c.in_ok-tokens.tokens (tokens-slash text c.in-Some.rest.now is ∙ or_malformed_ok _ _ c.in_ok-tokens.ensures)

pub returns-clause-decoded : goal.returns-clause-decoded
returns-clause-decoded c =
    let text = c.args.text.now in
    ap or_malformed (tokens-slash text c.in-Some.rest.now (strip_prefix_char 47 text (Some c.in-Some.rest) c.in-Some.ensures.cases (lit< tt))) ∙ c.in_ok-tokens.ensures
