use Rattle.std.proofs.Common.{◌≡◌, true, false, Some, ap, sym, subst, ◌∙◌, IsUtf8}
use Rattle.std.proofs.lemmas.Str.{IsUtf8-string_bytes}
use Rattle.xpath_part.proofs.WordTexts.{valid, invalid}
use Rattle.xpath_part.proofs.words.text_of.Goals as goal

pub returns-in-Ok : goal.returns-in-Ok
returns-in-Ok c =
    let whole = ap (λ v. v.items) c.in-Ok.ensures.ok ∙ c.into_vec.ensures in
    ap Some (c.from.ensures ∙ whole) ∙ valid c.args.word (subst IsUtf8 whole (IsUtf8-string_bytes c.in-Ok.text))

pub returns : goal.returns
returns c = invalid c.args.word (λ h. let no : false ≡ true = c.in-Err.ensures.succeeds (subst IsUtf8 (sym c.into_vec.ensures) h) in cc)
