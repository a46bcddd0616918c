use borrow.Author.Count.{below_more}
use Rattle.std.proofs.Common.{◌≡◌, Some, true, true≢false, slice_get, option_copied, sym, ap, ◌∙◌}
use Rattle.conf_doc.proofs.Edits.{same_Some}
use Rattle.yang_model.specs.ModelSets.{shapes_of}
use Rattle.yang_model.specs.declared.shapes.Shape.{Shape}
use Rattle.ref_index.specs.Referring.{shape_refers}
use Rattle.ref_index.proofs.Leafrefs.{ended_at, none_found, shape_place}
use Rattle.ref_index.proofs.referring.table_refers.Goals as goal

pub loop-place-preserved : goal.loop-place-preserved
loop-place-preserved c =
    let shapes = shapes_of c.args.table.now c.args.models.now in
    let to = c.args.to.now in
    let n = c.loop-place.place in
    below_more (λ j. (s : Shape) → slice_get shapes j ≡ Some s → ¬ (shape_refers to s ≡ true)) n c.loop-place.invariant
    (λ s at passes.
    let there : Some c.in-Some.shape.now ≡ slice_get shapes n = ap option_copied (sym c.in-Some.is) ∙ c.shape_at.ensures ∙ shape_place c.args.models.now c.args.table.now n in
    let same : s ≡ c.in-Some.shape.now = same_Some s c.in-Some.shape.now (sym at ∙ sym there) in
    true≢false (sym passes ∙ ap (shape_refers to) same ∙ sym c.shape_refers.ensures ∙ c.if-shape_refers.false))

pub returns-in-None : goal.returns-in-None
returns-in-None c = λ may.
    let shapes = shapes_of c.args.table.now c.args.models.now in
    let n = c.loop-place.place in
    let none = sym (shape_place c.args.models.now c.args.table.now n) ∙ sym c.shape_at.ensures ∙ ap option_copied c.in-None.is in
    absurd (none_found (shape_refers c.args.to.now) shapes n (ended_at shapes n none) c.loop-place.invariant may)
