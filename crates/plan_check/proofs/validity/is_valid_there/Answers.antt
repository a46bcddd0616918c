use Rattle.std.proofs.Common.{subst, sym, Some, slice_get, ◌≡◌}
use Rattle.conf_check.specs.MustReads.{HasOneTruth}
use Rattle.plan_check.proofs.OneEntry.{entry_tells}
use Rattle.plan_check.proofs.validity.is_valid_there.Goals as goal

pub returns : goal.returns
returns c =
    let models = c.args.models.now in
    let t = c.name_at.result.now in
    let k = c.name_at-2.result.now in
    let have = c.have_files.ensures in
    let one : HasOneTruth models = subst (λ m. HasOneTruth m) (sym have.are)
    (c.musts_have_one_truth.ensures have.files have.readers have.none) in
    entry_tells models c.args.cur.now c.args.next.now c.args.mv.now c.requires.result.is c.requires.keeps t k
    (subst (λ p. slice_get p 0 ≡ Some t) c.place-place.ensures c.name_at.ensures.name)
    (subst (λ p. slice_get p 1 ≡ Some k) c.place-place.ensures c.name_at-2.ensures.name)
    c.len-before.ensures.formed c.len-after.ensures.formed one
    c.belongings_are_one.ensures.there c.belongings_are_one-2.ensures.there
    c.requires.unread c.requires.valid c.is_valid_at.result c.is_valid_at.ensures
