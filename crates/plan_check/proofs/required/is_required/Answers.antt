use Rattle.std.proofs.Common.{◌≡◌, List, length, slice_get, Some, refl, ap, subst, arith}
use Rattle.move_core.specs.declared.settings.Required.{Required}
use Rattle.plan_check.specs.Requirements.{IsRequiredBy}
use Rattle.plan_check.proofs.Loops.{at_index, none_all, none_more, not_so, there_at}
use Rattle.plan_check.proofs.RequiringPlaces.{required_if, required_then}
use Rattle.plan_check.proofs.required.is_required.Goals as goal

pub returns-then-is_required_by : goal.returns-then-is_required_by
returns-then-is_required_by c =
    let h = c.args.here.now in
    let r = c.rule-item.result in
    let at = at_index c.items-rule-items.result.now c.loop-rule.rule-index r c.loop-rule-test.true c.rule-item.is in (
      λ t. required_if h c.args.mv.now c.args.more.now c.args.next.now c.requires.is r
          (there_at h.ctx.now.settings.required c.loop-rule.rule-index r (subst (λ l. slice_get l c.loop-rule.rule-index ≡ Some r) c.items-rule-items.ensures at))
          (c.is_required_by.ensures.0 c.if-is_required_by.true),
      λ is. refl,
    )

pub loop-rule-preserved : goal.loop-rule-preserved
loop-rule-preserved c =
    let h = c.args.here.now in
    let r = c.rule-item.result in
    let at = at_index c.items-rule-items.result.now c.loop-rule.rule-index r c.loop-rule-test.true c.rule-item.is in
    none_more (λ q. IsRequiredBy h c.args.next.now q c.args.more.now) h.ctx.now.settings.required c.loop-rule.rule-index r
    (subst (λ l. slice_get l c.loop-rule.rule-index ≡ Some r) c.items-rule-items.ensures at)
    (not_so c.is_required_by.result c.is_required_by.ensures.1 c.if-is_required_by.false) c.loop-rule.invariant

pub returns : goal.returns
returns c =
    let h = c.args.here.now in
    let end = c.loop-rule-test.false in
    let long = ap (λ (l : List Required). length l) c.items-rule-items.ensures in (
      λ t. absurd (cc),
      λ is.
          let one = required_then h c.args.mv.now c.args.more.now c.args.next.now c.requires.is is in
          absurd (none_all (λ q. IsRequiredBy h c.args.next.now q c.args.more.now) h.ctx.now.settings.required c.loop-rule.rule-index (omega (arith, end, long)) c.loop-rule.invariant one.0 one.1 one.2),
    )
