use borrow.Author.Count.{below_more}
use Rattle.std.proofs.Common.{◌≡◌, Some, slice_get, option_copied, sym, ap, ◌∙◌, subst}
use Rattle.conf_doc.proofs.Edits.{same_Some}
use Rattle.yang_model.specs.ModelSets.{shapes_of}
use Rattle.yang_model.specs.declared.shapes.Shape.{Shape}
use Rattle.move_extend.specs.KeyLengths.{IsShort}
use Rattle.move_extend.proofs.KeyLengths.{few_parts}
use Rattle.move_extend.proofs.Leafrefs.{before_end, shape_place}
use Rattle.move_extend.proofs.key_lengths.has_short_keys.Goals as goal

pub loop-place-preserved : goal.loop-place-preserved
loop-place-preserved c =
    let shapes = shapes_of c.args.table.now c.args.models.now in
    let n = c.loop-place.place in
    below_more (λ j. (s : Shape) → slice_get shapes j ≡ Some s → IsShort s) n c.loop-place.invariant
    (λ s at.
    let there : Some c.in-Some.shape.now ≡ slice_get shapes n = ap option_copied (sym c.in-Some.is) ∙ c.shape_at.ensures ∙ shape_place c.args.models.now c.args.table.now n in
    let same : s ≡ c.in-Some.shape.now = same_Some s c.in-Some.shape.now (sym at ∙ sym there) in
    subst IsShort (sym same) (c.is_short.ensures c.if-not-is_short.false))

pub returns-in-None : goal.returns-in-None
returns-in-None c = λ _ key shape is.
    let models = c.args.models.now in
    let table = c.args.table.now in
    let n = c.loop-place.place in
    let none = sym (shape_place models table n) ∙ sym c.shape_at.ensures ∙ ap option_copied c.in-None.is in
    few_parts models table key shape
    (c.loop-place.invariant is.place (before_end (shapes_of table models) n is.place shape none is.is) shape is.is) is
