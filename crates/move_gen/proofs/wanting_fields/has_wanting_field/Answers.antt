use borrow.Author.Count.{below_more}
use Rattle.std.proofs.Common.{◌≡◌, Some, true, true≢false, slice_get, option_copied, sym, ap, ◌∙◌}
use Rattle.std.proofs.lemmas.Option.{same_Some}
use Rattle.yang_model.specs.ModelSets.{shapes_of}
use Rattle.yang_model.specs.declared.shapes.Shape.{Shape}
use Rattle.move_gen.specs.WantingFields.{fields_may_want}
use Rattle.move_gen.proofs.WantingFields.{before_end, shape_place}
use Rattle.move_gen.proofs.wanting_fields.has_wanting_field.Goals as goal

pub loop-place-preserved : goal.loop-place-preserved
loop-place-preserved c =
    let shapes = shapes_of c.args.table.now c.args.models.now in
    let n = c.loop-place.place in
    below_more (λ j. (s : Shape) → slice_get shapes j ≡ Some s → ¬ (fields_may_want s ≡ true)) n c.loop-place.invariant
    (λ s at may.
    let there : Some c.in-Some.shape.now ≡ slice_get shapes n = ap option_copied (sym c.in-Some.is) ∙ c.shape_at.ensures ∙ shape_place c.args.models.now c.args.table.now n in
    let same : s ≡ c.in-Some.shape.now = same_Some s c.in-Some.shape.now (sym at ∙ sym there) in
    true≢false (sym may ∙ ap fields_may_want same ∙ sym c.fields_may_want.ensures ∙ c.if-fields_may_want.false))

pub returns-in-None : goal.returns-in-None
returns-in-None c = λ has.
    let shapes = shapes_of c.args.table.now c.args.models.now in
    let n = c.loop-place.place in
    let none = sym (shape_place c.args.models.now c.args.table.now n) ∙ sym c.shape_at.ensures ∙ ap option_copied c.in-None.is in
    absurd (c.loop-place.invariant has.place (before_end shapes n has.place has.shape none has.at) has.shape has.at has.may)
