use Rattle.std.proofs.Common.{◌≡◌, ◌≤◌, ◌^◌, ℕ, List, arith, true, false, sym, ap, subst, ◌∙◌}
use Rattle.patch_core.specs.Indexes.{is_dash, is_index, number}
use Rattle.patch_core.proofs.Numbers.{list_token_at_index}
use Rattle.patch_core.proofs.indexes.spot_of.Goals as goal

pub returns-in-None : goal.returns-in-None
returns-in-None c =
    let text : c.as_bytes-bytes.result.now ≡ c.args.token.now = c.as_bytes-bytes.ensures.value ∙ c.as_str.ensures.text in
    let no_dash : is_dash c.args.token.now ≡ false = ap is_dash (sym text) ∙ sym c.is_dash.ensures ∙ c.if-is_dash.false in
    let index : is_index c.args.token.now ≡ true = ap is_index (sym text) ∙ sym c.is_index.ensures ∙ c.if-not-is_index.false in
    let large : 2 ^ 64 ≤ number c.args.token.now = subst (λ (t : List ℕ). 2 ^ 64 ≤ number t) text c.in-None.ensures in
    (number c.args.token.now, list_token_at_index c.args.token.now no_dash index, omega arith)
