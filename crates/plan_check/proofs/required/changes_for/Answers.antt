use Rattle.std.proofs.Common.{◌≡◌, List, length, slice_get, Some, refl, ap, subst, arith}
use Rattle.move_core.specs.declared.settings.Requiring.{Requiring}
use Rattle.plan_check.specs.Requirements.{Differs}
use Rattle.plan_check.proofs.Loops.{at_index, none_all, none_more, not_so, there_at}
use Rattle.plan_check.proofs.RequiringPlaces.{changes_if, changes_then}
use Rattle.plan_check.proofs.required.changes_for.Goals as goal

pub returns-then-is_changed : goal.returns-then-is_changed
returns-then-is_changed c =
    let r = c.args.rule.now in
    let q = c.place-item.result in
    let at = at_index c.items-place-items.result.now c.loop-place.place-index q c.loop-place-test.true c.place-item.is in (
      λ t. changes_if c.args.change.now r q
          (there_at r.requiring c.loop-place.place-index q (subst (λ l. slice_get l c.loop-place.place-index ≡ Some q) c.items-place-items.ensures at)) (c.is_changed.ensures.0 c.if-is_changed.true),
      λ is. refl,
    )

pub loop-place-preserved : goal.loop-place-preserved
loop-place-preserved c =
    let q = c.place-item.result in
    let at = at_index c.items-place-items.result.now c.loop-place.place-index q c.loop-place-test.true c.place-item.is in
    none_more (Differs c.args.change.now) c.args.rule.now.requiring c.loop-place.place-index q (subst (λ l. slice_get l c.loop-place.place-index ≡ Some q) c.items-place-items.ensures at)
    (not_so c.is_changed.result c.is_changed.ensures.1 c.if-is_changed.false) c.loop-place.invariant

pub returns : goal.returns
returns c =
    let end = c.loop-place-test.false in
    let long = ap (λ (l : List Requiring). length l) c.items-place-items.ensures in (
      λ t. absurd (cc),
      λ is.
          let one = changes_then c.args.change.now c.args.rule.now is in
          absurd (none_all (Differs c.args.change.now) c.args.rule.now.requiring c.loop-place.place-index (omega (arith, end, long)) c.loop-place.invariant one.0 one.1 one.2),
    )
