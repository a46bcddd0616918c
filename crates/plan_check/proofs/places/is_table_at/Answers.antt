use Rattle.std.proofs.Common.{◌∷◌, [], length, ap, ◌∙◌, refl, arith}
use Rattle.plan_check.proofs.PlaceNames.{name_is, one}
use Rattle.plan_check.proofs.places.is_table_at.Goals as goal

pub returns-then-len-ne1 : goal.returns-then-len-ne1
returns-then-len-ne1 c = (λ t. absurd (cc), λ is. absurd (c.if-len-ne1.true (c.len.ensures.len ∙ ap length is)))

pub returns : goal.returns
returns c =
    let p = c.args.place.now in
    let t = c.args.table.now in (
      λ b. one p c.name_at.result.now (omega (arith, c.len.ensures.len)) c.name_at.ensures.name ∙ ap (λ n. n ∷ []) (c.is_name.ensures.0 b),
      λ is. c.is_name.ensures.1 (name_is p (t ∷ []) 0 c.name_at.result.now t c.name_at.ensures.name is refl),
    )
