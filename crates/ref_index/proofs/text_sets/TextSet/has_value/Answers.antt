use Rattle.std.proofs.Common.{◌≡◌, ◌∷◌, [], sym, subst, ◌∙◌}
use Rattle.std.specs.List.{Contains}
use Rattle.ref_index.specs.Texts.{Has, texts_of_value}
use Rattle.ref_index.proofs.EntryTexts.{alone}
use Rattle.ref_index.proofs.text_sets.TextSet.has_value.Goals as goal

pub returns-in-Text : goal.returns-in-Text
returns-in-Text c = λ s has in_value.
    let one : Contains (c.in-Text.text ∷ []) s = subst (λ v. Contains (texts_of_value v) s) c.in-Text.is in_value in
    let same : s ≡ c.as_str.result.now = sym (alone c.in-Text.text s one) ∙ sym c.as_str.ensures.text in
    c.has.ensures ∙ subst (Has c.args.self.now) same has

pub returns-in-List : goal.returns-in-List
returns-in-List c = λ s has in_value. c.has_item.ensures s has (subst (λ v. Contains (texts_of_value v) s) c.in-List.is in_value)
