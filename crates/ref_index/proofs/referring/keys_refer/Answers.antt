use borrow.Author.Count.{below_more}
use Rattle.std.proofs.Common.{◌≡◌, Some, true, true≢false, slice_get, sym, ap, ◌∙◌, arith}
use Rattle.conf_doc.proofs.Edits.{same_Some}
use Rattle.yang_model.specs.declared.shapes.KeyLeaf.{KeyLeaf}
use Rattle.yang_types.specs.DataTypes.{data_type}
use Rattle.ref_index.specs.Referring.{type_refers}
use Rattle.ref_index.proofs.Leafrefs.{any_at, any_none}
use Rattle.ref_index.proofs.referring.keys_refer.Goals as goal

pub returns-then-type_refers : goal.returns-then-type_refers
returns-then-type_refers c =
    let to = c.args.to.now in
    sym (any_at (λ (leaf : KeyLeaf). type_refers to (data_type leaf.ty)) c.args.leaves.now c.loop-i.i c.at.result.now c.at.ensures
    (sym c.type_refers.ensures ∙ c.if-type_refers.true))

pub loop-i-preserved : goal.loop-i-preserved
loop-i-preserved c =
    let to = c.args.to.now in
    below_more (λ j. (leaf : KeyLeaf) → slice_get c.args.leaves.now j ≡ Some leaf → ¬ (type_refers to (data_type leaf.ty) ≡ true)) c.loop-i.i c.loop-i.invariant
    (λ leaf at refers.
    let same : leaf ≡ c.at.result.now = same_Some leaf c.at.result.now (sym at ∙ c.at.ensures) in
    true≢false (sym refers ∙ ap (λ (leaf : KeyLeaf). type_refers to (data_type leaf.ty)) same ∙ sym c.type_refers.ensures ∙ c.if-type_refers.false))

pub returns : goal.returns
returns c =
    let to = c.args.to.now in
    let all = c.len-i-end.ensures in
    let end = c.loop-i-test.false in
    any_none (λ (leaf : KeyLeaf). type_refers to (data_type leaf.ty)) c.args.leaves.now c.loop-i.i (omega (arith, all, end)) c.loop-i.invariant
