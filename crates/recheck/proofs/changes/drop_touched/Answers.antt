use Rattle.std.proofs.Common.{◌≡◌, ℕ, Some, None, slice_get, sym, subst, inl}
use Rattle.key_split.specs.Key.{key_parts}
use Rattle.yang_model.specs.Belongs.{Belongs}
use Rattle.yang_model.specs.ModelSets.{shapes_of}
use Rattle.ref_index.specs.Referrers.{HasWant, want_for}
use Rattle.recheck.specs.Changes.{MayWantPart}
use Rattle.recheck.specs.Turned.{IsOn, MayTouch}
use Rattle.recheck.specs.Verdicts.{is_elsewhere}
use Rattle.recheck.proofs.VerdictDrops.{among_among, among_filter, none_on, none_touched, not_left, not_wanted}
use Rattle.recheck.proofs.Lists.{among_all}
use Rattle.recheck.proofs.RemainingVerdicts.{on_by, touched_by}
use Rattle.recheck.proofs.ParallelWalks.{left_filter, left_then}
use Rattle.recheck.proofs.changes.drop_touched.Goals as goal

pub returns-in-Some-clause-among : goal.returns-in-Some-clause-among
returns-in-Some-clause-among c =
    among_among c.args.verdicts.now.items c.drop_at.new.verdicts.items c.drop_parts.new.verdicts.items
    (among_filter (is_elsewhere c.args.table.now c.args.key.now) c.args.verdicts.now.items c.drop_at.new.verdicts.items c.drop_at.ensures.rest c.drop_at.ensures.shorter)
    c.drop_parts.ensures.among

pub returns-in-Some-clause-dropped : goal.returns-in-Some-clause-dropped
returns-in-Some-clause-dropped c =
    let config = c.args.index.now.config in
    let table = c.args.table.now in
    let key = c.args.key.now in
    let mid = c.drop_at.new.verdicts.items in
    let new = c.drop_parts.new.verdicts.items in
    none_touched c.args.models.now config table key new
    (among_all (λ v. ¬ IsOn table key v) mid new c.drop_parts.ensures.among.each (none_on table key c.args.verdicts.now.items mid c.drop_at.ensures.rest))
    (not_left c.args.models.now config table key c.in-Some.shape new
    (subst (λ k. Belongs (shapes_of table c.args.models.now) k (Some c.in-Some.shape)) c.new-view.ensures c.in-Some.ensures)
    (λ part text p at has.
    c.drop_parts.ensures.dropped part text p (subst (λ k. slice_get (key_parts k) part ≡ Some text) (sym c.new-view.ensures) at)
    (subst (λ m. HasWant m config (want_for table c.in-Some.shape part text) p) (sym c.requires) has)))

pub returns-in_default-clause-among : goal.returns-in_default-clause-among
returns-in_default-clause-among c =
    among_filter (is_elsewhere c.args.table.now c.args.key.now) c.args.verdicts.now.items c.drop_at.new.verdicts.items c.drop_at.ensures.rest c.drop_at.ensures.shorter

pub returns-in_default-clause-dropped : goal.returns-in_default-clause-dropped
returns-in_default-clause-dropped c =
    let config = c.args.index.now.config in
    let table = c.args.table.now in
    let key = c.args.key.now in
    let new = c.drop_at.new.verdicts.items in
    none_touched c.args.models.now config table key new (none_on table key c.args.verdicts.now.items new c.drop_at.ensures.rest)
    (λ v has. not_wanted c.args.models.now config table key
    (subst (λ k. Belongs (shapes_of table c.args.models.now) k None) c.new-view.ensures c.in_default.ensures) v)

pub returns-in-Some-clause-left : goal.returns-in-Some-clause-left
returns-in-Some-clause-left c =
    let config = c.args.index.now.config in
    let table = c.args.table.now in
    let key = c.args.key.now in
    let mid = c.drop_at.new.verdicts.items in
    let new = c.drop_parts.new.verdicts.items in
    let shape = c.in-Some.shape in
    let belongs = subst (λ k. Belongs (shapes_of table c.args.models.now) k (Some shape)) c.new-view.ensures c.in-Some.ensures in
    left_then (IsOn table key) (λ v. (part : ℕ) × MayWantPart c.args.index.now.models config table shape c.new-view.result part v)
    (MayTouch c.args.models.now config table key) (λ v on. inl (inl on))
    (λ v is. touched_by c.args.models.now config table key shape is.0 v belongs
    (subst (λ m. MayWantPart m config table shape key is.0 v) c.requires
    (subst (λ k. MayWantPart c.args.index.now.models config table shape k is.0 v) c.new-view.ensures is.1)))
    c.args.verdicts.now.items mid new (left_filter (is_elsewhere table key) (IsOn table key) (on_by table key) c.args.verdicts.now.items mid c.drop_at.ensures.rest)
    c.drop_parts.ensures.left

pub returns-in_default-clause-left : goal.returns-in_default-clause-left
returns-in_default-clause-left c =
    let table = c.args.table.now in
    let key = c.args.key.now in
    left_filter (is_elsewhere table key) (MayTouch c.args.models.now c.args.index.now.config table key) (λ v e. inl (inl (on_by table key v e)))
    c.args.verdicts.now.items c.drop_at.new.verdicts.items c.drop_at.ensures.rest
