use Rattle.std.proofs.Common.{refl, subst, sym}
use Rattle.move_core.specs.Rules.{IsAtOrBelow}
use Rattle.plan_check.specs.Touching.{IsTouched}
use Rattle.plan_check.proofs.Tests.{failed}
use Rattle.plan_check.proofs.TouchedWants.{IsLeft, left_broken, left_first, left_next, left_none, touched_below}
use Rattle.plan_check.proofs.rules.wants_hold.Goals.{else-touches-via-then-touches+else-not-is_satisfied, else-touches-via-else-touches}
use Rattle.plan_check.proofs.rules.wants_hold.Goals as goal

pub loop-at-init : goal.loop-at-init
loop-at-init c =
    let Touched = IsTouched c.args.mv.now c.args.is_after in (
      tt,
      tt,
      subst (IsLeft c.args.models.now Touched c.args.config.now c.args.other.now) (sym c.into_iter-at-iterator.ensures.into_iter_gives)
          (left_first c.args.models.now Touched c.args.config.now c.args.other.now c.place.result.now
          (λ n item touched. subst (λ p. IsAtOrBelow p n) (sym c.place.ensures) (touched_below c.args.mv.now c.args.is_after n item touched))
          c.wants_round-at-items.result c.wants_round-at-items.ensures.models c.wants_round-at-items.ensures.config c.wants_round-at-items.ensures.ahead),
    )

pub returns-then-not-is_satisfied : goal.returns-then-not-is_satisfied
returns-then-not-is_satisfied c =
    let Touched = IsTouched c.args.mv.now c.args.is_after in (
      λ t. absurd cc,
      λ hold. absurd
          (left_broken c.args.models.now Touched c.args.config.now c.args.other.now c.loop-at.at-iterator c.next.new.self c.in-Some.at c.loop-at.invariant.2 c.in-Some.ensures.steps
          (c.touches.ensures.0 c.if-touches.true) (failed c.if-not-is_satisfied.ensures.1) hold),
    )

pub returns : goal.returns
returns c = (
  λ _. left_none c.args.models.now (IsTouched c.args.mv.now c.args.is_after) c.args.config.now c.args.other.now c.loop-at.at-iterator c.next.new.self c.loop-at.invariant.2 c.in-None.ensures.steps,
  λ _. refl,
)

pub loop-at-preserved : goal.loop-at-preserved
loop-at-preserved c =
    let Touched = IsTouched c.args.mv.now c.args.is_after in
    let next = left_next c.args.models.now Touched c.args.config.now c.args.other.now c.loop-at.at-iterator c.next.new.self
    c.in-Some.at c.loop-at.invariant.2 c.in-Some.ensures.steps in
    elim c.else-touches.branch [
      | else-touches-via-then-touches+else-not-is_satisfied w ↦ (tt, tt, next (λ _. w.if-not-is_satisfied.ensures.0 refl))
      | else-touches-via-else-touches w ↦
          (tt, tt, next (λ touched. let is = w.if-touches.false in let no = c.touches.ensures.1 touched in absurd cc))
    ]
