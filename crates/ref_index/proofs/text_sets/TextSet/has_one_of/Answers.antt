use borrow.Author.Count.{below_more}
use Rattle.std.proofs.Common.{◌≡◌, ℕ, List, map, Some, slice_get, sym, subst, ◌∙◌, inl, inr, arith}
use Rattle.std.specs.List.{Contains}
use Rattle.conf_doc.proofs.Edits.{same_Some}
use Rattle.conf_doc.specs.declared.configuration.Value.{Value}
use Rattle.ref_index.specs.Texts.{Has, texts_of_value}
use Rattle.ref_index.proofs.NamedEntries.{length-map, within}
use Rattle.ref_index.proofs.text_sets.TextSet.has_one_of.Goals as goal

pub loop-i-preserved : goal.loop-i-preserved
loop-i-preserved c =
    let values = map (λ f. f.1) c.args.fields.now in
    below_more (λ j. (s : List ℕ) (v : Value) → slice_get values j ≡ Some v → Contains (texts_of_value v) s → Has c.args.self.now s → ⊥) c.loop-i.i c.loop-i.invariant
    (λ s v at in_value has.
    let same : v ≡ c.part_at.result.now = same_Some v c.part_at.result.now (sym at ∙ c.part_at.ensures.part) in
    let yes = c.has_value.ensures s has (subst (λ w. Contains (texts_of_value w) s) same in_value) in
    let no = c.if-has_value.false in
    absurd cc)

pub returns : goal.returns
returns c = λ s has text.
    let values = map (λ f. f.1) c.args.fields.now in
    elim text [
      | inl part ↦
          let yes = c.has_part.ensures s has part in
          let no = c.if-has_part.false in
          absurd cc
      | inr field ↦
          let below = within values field.field field.value field.there in
          let long = length-map (λ f. f.1) c.args.fields.now in
          let len = c.len-i-end.ensures.len in
          absurd (c.loop-i.invariant field.field (omega (arith, below, long, len)) s field.value field.there field.has has)
    ]
