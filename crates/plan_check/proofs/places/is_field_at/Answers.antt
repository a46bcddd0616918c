use Rattle.std.proofs.Common.{◌∷◌, [], length, ap, ◌∙◌, refl, arith}
use Rattle.plan_check.proofs.Loops.{not_so}
use Rattle.plan_check.proofs.PlaceNames.{name_is, three}
use Rattle.plan_check.proofs.places.is_field_at.Goals as goal

pub returns-then-len-ne3 : goal.returns-then-len-ne3
returns-then-len-ne3 c = (λ t. absurd (cc), λ is. absurd (c.if-len-ne3.true (c.len.ensures.len ∙ ap length is)))

pub returns-then-not-is_name : goal.returns-then-not-is_name
returns-then-not-is_name c =
    let p = c.args.place.now in
    let t = c.args.table.now in
    let k = c.args.key.now in
    let f = c.args.field.now in
    (λ b. absurd (cc), λ is. absurd (not_so c.is_name.result c.is_name.ensures.1 c.if-not-is_name.true (name_is p (t ∷ k ∷ f ∷ []) 0 c.name_at.result.now t c.name_at.ensures.name is refl)))

pub returns-then-not-is_name-2 : goal.returns-then-not-is_name-2
returns-then-not-is_name-2 c =
    let p = c.args.place.now in
    let t = c.args.table.now in
    let k = c.args.key.now in
    let f = c.args.field.now in
    (λ b. absurd (cc), λ is. absurd (not_so c.is_name-2.result c.is_name-2.ensures.1 c.if-not-is_name-2.true (name_is p (t ∷ k ∷ f ∷ []) 1 c.name_at-2.result.now k c.name_at-2.ensures.name is refl)))

pub returns : goal.returns
returns c =
    let p = c.args.place.now in
    let t = c.args.table.now in
    let k = c.args.key.now in
    let f = c.args.field.now in
    let first = c.is_name.ensures.0 c.if-not-is_name.false in
    let next = c.is_name-2.ensures.0 c.if-not-is_name-2.false in (
      λ b.
          let last = c.is_name-3.ensures.0 b in
          three p c.name_at.result.now c.name_at-2.result.now c.name_at-3.result.now (omega (arith, c.len.ensures.len)) c.name_at.ensures.name c.name_at-2.ensures.name c.name_at-3.ensures.name
          ∙ (λ i. first i ∷ next i ∷ last i ∷ []),
      λ is. c.is_name-3.ensures.1 (name_is p (t ∷ k ∷ f ∷ []) 2 c.name_at-3.result.now f c.name_at-3.ensures.name is refl),
    )
