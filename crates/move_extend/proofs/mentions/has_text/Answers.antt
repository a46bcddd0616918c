use Rattle.std.proofs.Common.{◌≡◌, ◌∷◌, [], map, Contains, sym, subst, ◌∙◌}
use Rattle.move_extend.specs.Mentions.{texts_of_value}
use Rattle.move_extend.proofs.TextSearches.{alone, among}
use Rattle.move_extend.proofs.mentions.has_text.Goals as goal

pub returns-in-Text : goal.returns-in-Text
returns-in-Text c = λ s has in_value.
    let one : Contains (c.in-Text.text ∷ []) s = subst (λ v. Contains (texts_of_value v) s) c.in-Text.is in_value in
    let same : s ≡ c.as_str.result.now = sym (alone c.in-Text.text s one) ∙ sym c.as_str.ensures.text in
    c.is_among.ensures ∙ among (λ t. t.now) c.args.texts.now c.as_str.result.now (subst (Contains (map (λ t. t.now) c.args.texts.now)) same has)

pub returns-in-List : goal.returns-in-List
returns-in-List c = λ s has in_value. c.has_item.ensures s has (subst (λ v. Contains (texts_of_value v) s) c.in-List.is in_value)
