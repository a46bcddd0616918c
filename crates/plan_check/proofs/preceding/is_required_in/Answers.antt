use Rattle.std.proofs.Common.{◌≡◌, ℕ, List, length, slice_get, Some, refl, sym, ap, ◌∙◌, subst, arith}
use Rattle.std.specs.Option.{option_copied}
use Rattle.move_core.specs.Extensions.{rule_field}
use Rattle.move_core.specs.Moves.{Place}
use Rattle.move_core.specs.declared.settings.Required.{Required}
use Rattle.move_core.specs.declared.settings.Requiring.{Requiring}
use Rattle.plan_check.specs.Nearby.{IsRequiringIn}
use Rattle.plan_check.proofs.Loops.{at_index, none_all, none_more, not_so, there_at}
use Rattle.plan_check.proofs.preceding.is_required_in.Goals as goal

-- the key of a rule's field
key_is : (r : Required) (p : Place) (k named : List ℕ) → p ≡ rule_field r k → slice_get p 1 ≡ Some named → k ≡ named
key_is r p k named is at = same_Some k named (sym (ap (λ q. slice_get q 1) is) ∙ at)
  where
    same_Some : (a b : List ℕ) → Some a ≡ Some b → a ≡ b
    same_Some a b e = cc

pub returns-then-len-ne3 : goal.returns-then-len-ne3
returns-then-len-ne3 c = (λ t. absurd (cc), λ is. absurd (c.if-len-ne3.true (c.len.ensures.len ∙ ap length is.is)))

pub returns-then-not-is_rule_field : goal.returns-then-not-is_rule_field
returns-then-not-is_rule_field c =
    let r = c.args.rule.now in
    let p = c.args.place.now in
    let named = c.name_at-named.result.now in (
      λ t. absurd (cc),
      λ is. absurd
          (not_so c.is_rule_field.result c.is_rule_field.ensures.1 c.if-not-is_rule_field.true
          (subst (λ k. p ≡ rule_field r k) (key_is r p is.named named is.is c.name_at-named.ensures.name) is.is)),
    )

pub returns-then-is_requiring : goal.returns-then-is_requiring
returns-then-is_requiring c =
    let r = c.args.rule.now in
    let q = c.requiring-item.result in
    let at = at_index c.items-requiring-items.result.now c.loop-requiring.requiring-index q c.loop-requiring-test.true c.requiring-item.is in (
      λ t. record {
        named = c.name_at-named.result.now;
        is = c.is_rule_field.ensures.0 c.if-not-is_rule_field.false;
        requiring = q;
        there = there_at r.requiring c.loop-requiring.requiring-index q (subst (λ l. slice_get l c.loop-requiring.requiring-index ≡ Some q) c.items-requiring-items.ensures at);
        in_it = c.is_requiring.ensures.0 c.if-is_requiring.true;
      },
      λ is. refl,
    )

pub loop-requiring-preserved : goal.loop-requiring-preserved
loop-requiring-preserved c =
    let r = c.args.rule.now in
    let q = c.requiring-item.result in
    let at = at_index c.items-requiring-items.result.now c.loop-requiring.requiring-index q c.loop-requiring-test.true c.requiring-item.is in
    none_more (λ x. IsRequiringIn x c.name_at-named.result.now c.args.table.now (option_copied c.args.key)) r.requiring c.loop-requiring.requiring-index q
    (subst (λ l. slice_get l c.loop-requiring.requiring-index ≡ Some q) c.items-requiring-items.ensures at)
    (not_so c.is_requiring.result c.is_requiring.ensures.1 c.if-is_requiring.false) c.loop-requiring.invariant

pub returns : goal.returns
returns c =
    let r = c.args.rule.now in
    let p = c.args.place.now in
    let named = c.name_at-named.result.now in
    let t = c.args.table.now in
    let key = option_copied c.args.key in
    let end = c.loop-requiring-test.false in
    let long = ap (λ (l : List Requiring). length l) c.items-requiring-items.ensures in (
      λ b. absurd (cc),
      λ is. absurd
          (none_all (λ x. IsRequiringIn x named t key) r.requiring c.loop-requiring.requiring-index (omega (arith, end, long)) c.loop-requiring.invariant is.requiring is.there
          (subst (λ k. IsRequiringIn is.requiring k t key) (key_is r p is.named named is.is c.name_at-named.ensures.name) is.in_it)),
    )
