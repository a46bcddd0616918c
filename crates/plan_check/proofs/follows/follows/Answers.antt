use Rattle.std.proofs.Common.{◌<◌, length, inl, inr, refl, subst, arith}
use Rattle.move_core.specs.Moves.{place, step}
use Rattle.plan_check.proofs.Following.{case_of, no_table, of_delete, of_referrer, of_required, of_upper}
use Rattle.plan_check.proofs.Loops.{not_so}
use Rattle.plan_check.proofs.follows.follows.Goals as goal

pub returns-then-is_upper : goal.returns-then-is_upper
returns-then-is_upper c =
    let s = c.args.sought.now in
    (λ t. of_upper s.here.now c.args.mv.now s.mv.now (c.is_upper.ensures.0 c.if-is_upper.true), λ p. refl)

pub returns-then-is_delete : goal.returns-then-is_delete
returns-then-is_delete c =
    let s = c.args.sought.now in
    (λ t. of_delete s.here.now c.args.mv.now s.mv.now (c.is_delete.ensures.0 c.if-is_delete.true), λ p. refl)

pub returns-then-len-lt2 : goal.returns-then-len-lt2
returns-then-len-lt2 c =
    let s = c.args.sought.now in
    let h = s.here.now in
    let m = c.args.mv.now in
    let x = s.mv.now in
    let long = c.len.ensures.len in
    let test = c.if-len-lt2.true in
    let short : length (place x) < 2 = subst (λ p. length p < 2) c.place.ensures (omega (arith, long, test)) in (
      λ t. absurd cc,
      λ p. elim (case_of h m x (step h.cur.now m) refl p) [
        | inl first ↦ elim first [
          | inl upper ↦ absurd (not_so c.is_upper.result c.is_upper.ensures.1 c.if-is_upper.false upper)
          | inr delete ↦ absurd (not_so c.is_delete.result c.is_delete.ensures.1 c.if-is_delete.false delete)
        ]
        | inr second ↦ absurd (no_table h m x short (step h.cur.now m) second)
      ],
    )

pub returns-then-is_required : goal.returns-then-is_required
returns-then-is_required c =
    let s = c.args.sought.now in
    (λ t. of_required s.here.now c.args.mv.now s.mv.now (c.is_required.ensures.0 c.if-is_required.true), λ p. refl)

pub returns : goal.returns
returns c =
    let s = c.args.sought.now in
    let h = s.here.now in
    let m = c.args.mv.now in
    let x = s.mv.now in
    let next = c.in_ok-next.next in
    let made = c.in_ok-next.ensures.step in (
      λ t. of_referrer h m x next made (c.is_referrer.ensures.0 t),
      λ p. elim (case_of h m x next made p) [
        | inl first ↦ elim first [
          | inl upper ↦ absurd (not_so c.is_upper.result c.is_upper.ensures.1 c.if-is_upper.false upper)
          | inr delete ↦ absurd (not_so c.is_delete.result c.is_delete.ensures.1 c.if-is_delete.false delete)
        ]
        | inr second ↦ elim second [
          | inl required ↦ absurd (not_so c.is_required.result c.is_required.ensures.1 c.if-is_required.false required)
          | inr referrer ↦ c.is_referrer.ensures.1 referrer
        ]
      ],
    )
