use borrow.Author.Count.{below_more}
use Rattle.std.proofs.Common.{◌≡◌, Some, true, true≢false, slice_get, sym, ap, ◌∙◌, arith}
use Rattle.conf_doc.proofs.Edits.{same_Some}
use Rattle.yang_model.specs.declared.shapes.FieldRule.{FieldRule}
use Rattle.yang_types.specs.DataTypes.{data_type}
use Rattle.ref_index.specs.Referring.{type_refers}
use Rattle.ref_index.proofs.Leafrefs.{any_at, any_none}
use Rattle.ref_index.proofs.referring.fields_refer.Goals as goal

pub returns-then-type_refers : goal.returns-then-type_refers
returns-then-type_refers c =
    let to = c.args.to.now in
    sym (any_at (λ (rule : FieldRule). type_refers to (data_type rule.ty)) c.args.rules.now c.loop-i.i c.at.result.now c.at.ensures
    (sym c.type_refers.ensures ∙ c.if-type_refers.true))

pub loop-i-preserved : goal.loop-i-preserved
loop-i-preserved c =
    let to = c.args.to.now in
    below_more (λ j. (rule : FieldRule) → slice_get c.args.rules.now j ≡ Some rule → ¬ (type_refers to (data_type rule.ty) ≡ true)) c.loop-i.i c.loop-i.invariant
    (λ rule at refers.
    let same : rule ≡ c.at.result.now = same_Some rule c.at.result.now (sym at ∙ c.at.ensures) in
    true≢false (sym refers ∙ ap (λ (rule : FieldRule). type_refers to (data_type rule.ty)) same ∙ sym c.type_refers.ensures ∙ c.if-type_refers.false))

pub returns : goal.returns
returns c =
    let to = c.args.to.now in
    let all = c.len-i-end.ensures in
    let end = c.loop-i-test.false in
    any_none (λ (rule : FieldRule). type_refers to (data_type rule.ty)) c.args.rules.now c.loop-i.i (omega (arith, all, end)) c.loop-i.invariant
