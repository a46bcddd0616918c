use Rattle.std.proofs.Common.{◌≡◌, Some, slice_get, length, ap, subst, ◌∙◌}
use Rattle.move_core.specs.Extensions.{ChangesFor, put_value, required_part, rule_field}
use Rattle.plan_check.specs.Requirements.{LacksValue}
use Rattle.plan_check.proofs.Loops.{not_so}
use Rattle.plan_check.proofs.RequiringPlaces.{put_key, put_length}
use Rattle.plan_check.proofs.required.is_required_by.Goals as goal

pub returns-then-len-ne3 : goal.returns-then-len-ne3
returns-then-len-ne3 c = (
  λ t. absurd (cc),
  λ is.
      let long = put_length c.args.here.now c.args.next.now c.args.rule.now c.args.more.now is in
      let len = c.len.ensures.len ∙ ap length c.place-place.ensures in
      absurd (c.if-len-ne3.true (len ∙ long)),
)

pub returns-then-not-puts_required : goal.returns-then-not-puts_required
returns-then-not-puts_required c = (
  λ t. absurd (cc),
  λ is.
      let r = c.args.rule.now in
      let x = c.args.more.now in
      let cur = c.args.here.now.cur.now in
      let named = c.name_at-named.result.now in
      let at = subst (λ p. slice_get p 1 ≡ Some named) c.place-place.ensures c.name_at-named.ensures.name in
      let same = put_key c.args.here.now c.args.next.now r x is named at in
      absurd (not_so c.puts_required.result c.puts_required.ensures.1 c.if-not-puts_required.true
      (subst (λ k. x ≡ put_value cur (rule_field r k) (required_part r)) same is.move)),
)

pub returns-then-not-lacks_value : goal.returns-then-not-lacks_value
returns-then-not-lacks_value c = (
  λ t. absurd (cc),
  λ is.
      let r = c.args.rule.now in
      let named = c.name_at-named.result.now in
      let at = subst (λ p. slice_get p 1 ≡ Some named) c.place-place.ensures c.name_at-named.ensures.name in
      let same = put_key c.args.here.now c.args.next.now r c.args.more.now is named at in
      absurd (not_so c.lacks_value.result c.lacks_value.ensures.1 c.if-not-lacks_value.true (subst (LacksValue c.args.here.now c.args.next.now r) same is.lacks)),
)

pub returns : goal.returns
returns c =
    let h = c.args.here.now in
    let r = c.args.rule.now in
    let x = c.args.more.now in
    let named = c.name_at-named.result.now in
    let at = subst (λ p. slice_get p 1 ≡ Some named) c.place-place.ensures c.name_at-named.ensures.name in (
      λ t. record {
        key = named;
        changes = c.changes_for.ensures.0 t;
        lacks = c.lacks_value.ensures.0 c.if-not-lacks_value.false;
        move = c.puts_required.ensures.0 c.if-not-puts_required.false;
      },
      λ is. c.changes_for.ensures.1 (subst (λ k. ChangesFor r k h.cur.now c.args.next.now) (put_key h c.args.next.now r x is named at) is.changes),
    )
