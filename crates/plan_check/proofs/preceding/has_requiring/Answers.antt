use Rattle.std.proofs.Common.{◌≡◌, List, length, slice_get, Some, refl, arith, subst, ap}
use Rattle.std.specs.Option.{option_copied}
use Rattle.move_core.specs.Moves.{place}
use Rattle.move_core.specs.declared.settings.Required.{Required}
use Rattle.plan_check.specs.Nearby.{IsRequiredIn}
use Rattle.plan_check.proofs.Loops.{at_index, none_all, none_more, not_so, there_at}
use Rattle.plan_check.proofs.preceding.has_requiring.Goals as goal

pub returns-then-is_required_in : goal.returns-then-is_required_in
returns-then-is_required_in c =
    let rules = c.args.sought.now.here.now.ctx.now.settings.required in
    let t = c.args.table.now in
    let key = option_copied c.args.key in
    let r = c.rule-item.result in
    let at = at_index c.items-rule-items.result.now c.loop-rule.rule-index r c.loop-rule-test.true c.rule-item.is in (
      λ b. record {
        rule = r;
        there = there_at rules c.loop-rule.rule-index r (subst (λ l. slice_get l c.loop-rule.rule-index ≡ Some r) c.items-rule-items.ensures at);
        is = subst (λ p. IsRequiredIn r p t key) c.place.ensures (c.is_required_in.ensures.0 c.if-is_required_in.true);
      },
      λ has. refl,
    )

pub loop-rule-preserved : goal.loop-rule-preserved
loop-rule-preserved c =
    let rules = c.args.sought.now.here.now.ctx.now.settings.required in
    let t = c.args.table.now in
    let key = option_copied c.args.key in
    let r = c.rule-item.result in
    let at = at_index c.items-rule-items.result.now c.loop-rule.rule-index r c.loop-rule-test.true c.rule-item.is in
    none_more (λ q. IsRequiredIn q (place c.args.sought.now.mv.now) t key) rules c.loop-rule.rule-index r
    (subst (λ l. slice_get l c.loop-rule.rule-index ≡ Some r) c.items-rule-items.ensures at)
    (subst (λ p. ¬ IsRequiredIn r p t key) c.place.ensures (not_so c.is_required_in.result c.is_required_in.ensures.1 c.if-is_required_in.false)) c.loop-rule.invariant

pub returns : goal.returns
returns c =
    let rules = c.args.sought.now.here.now.ctx.now.settings.required in
    let t = c.args.table.now in
    let key = option_copied c.args.key in
    let end = c.loop-rule-test.false in
    let long = ap (λ (l : List Required). length l) c.items-rule-items.ensures in (
      λ b. absurd (cc),
      λ has. absurd (none_all (λ q. IsRequiredIn q (place c.args.sought.now.mv.now) t key) rules c.loop-rule.rule-index (omega (arith, end, long)) c.loop-rule.invariant has.rule has.there has.is),
    )
