use borrow.Author.Count.{below_more}
use Rattle.std.proofs.Common.{◌≡◌, Some, true, true≢false, slice_get, sym, ap, ◌∙◌, arith}
use Rattle.conf_doc.proofs.Edits.{same_Some}
use Rattle.yang_types.specs.DataType.{DataType}
use Rattle.yang_types.specs.DataTypes.{data_type}
use Rattle.ref_index.specs.Referring.{member_refers}
use Rattle.ref_index.proofs.Leafrefs.{any_at, any_none}
use Rattle.ref_index.proofs.referring.members_refer.Goals as goal

pub returns-then-member_refers : goal.returns-then-member_refers
returns-then-member_refers c =
    let to = c.args.to.now in
    sym (any_at (member_refers to) c.args.types.now c.loop-i.i (data_type c.at.result.now) c.at.ensures
    (sym c.member_refers.ensures ∙ c.if-member_refers.true))

pub loop-i-preserved : goal.loop-i-preserved
loop-i-preserved c =
    let to = c.args.to.now in
    below_more (λ j. (t : DataType) → slice_get c.args.types.now j ≡ Some t → ¬ (member_refers to t ≡ true)) c.loop-i.i c.loop-i.invariant
    (λ t at refers.
    let same : t ≡ data_type c.at.result.now = same_Some t (data_type c.at.result.now) (sym at ∙ c.at.ensures) in
    true≢false (sym refers ∙ ap (member_refers to) same ∙ sym c.member_refers.ensures ∙ c.if-member_refers.false))

pub returns : goal.returns
returns c =
    let to = c.args.to.now in
    let all = c.len-i-end.ensures in
    let end = c.loop-i-test.false in
    any_none (member_refers to) c.args.types.now c.loop-i.i (omega (arith, all, end)) c.loop-i.invariant
