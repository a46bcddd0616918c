use borrow.Author.Count.{below_more}
use Rattle.std.proofs.Common.{◌≡◌, ℕ, List, map, Some, slice_get, Contains, sym, subst, ◌∙◌, inl, inr, arith}
use Rattle.conf_doc.proofs.Edits.{same_Some}
use Rattle.conf_doc.proofs.Lists.{length-map}
use Rattle.conf_doc.specs.declared.configuration.Value.{Value}
use Rattle.move_extend.specs.Mentions.{texts_of_value}
use Rattle.move_extend.proofs.TextSearches.{within}
use Rattle.move_extend.proofs.mentions.mentions_one.Goals as goal

pub loop-i-preserved : goal.loop-i-preserved
loop-i-preserved c =
    let texts = map (λ t. t.now) c.args.texts.now in
    let values = map (λ f. f.1) c.args.fields.now in
    below_more (λ j. (s : List ℕ) (v : Value) → slice_get values j ≡ Some v → Contains (texts_of_value v) s → Contains texts s → ⊥) c.loop-i.i c.loop-i.invariant
    (λ s v at in_value has.
    let same : v ≡ c.part_at.result.now = same_Some v c.part_at.result.now (sym at ∙ c.part_at.ensures.part) in
    let yes = c.has_text.ensures s has (subst (λ w. Contains (texts_of_value w) s) same in_value) in
    let no = c.if-has_text.false in
    absurd cc)

pub returns : goal.returns
returns c = λ short m.
    let values = map (λ f. f.1) c.args.fields.now in
    elim m.has [
      | inl part ↦
          let yes = c.may_have_part.ensures short m.text m.part part in
          let no = c.if-may_have_part.false in
          absurd cc
      | inr field ↦
          let below = within values field.field field.value field.has.0 in
          let long = length-map (λ f. f.1) c.args.fields.now in
          let len = c.len-i-end.ensures.len in
          absurd (c.loop-i.invariant field.field (omega (arith, below, long, len)) m.text field.value field.has.0 field.has.1 m.part)
    ]
