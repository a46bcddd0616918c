use Rattle.std.proofs.Common.{◌≡◌, ◌↔◌, IsTrue, IsSome, length, refl, sym, subst, ◌∙◌, arith}
use Rattle.std.proofs.lemmas.Result.{IfOk-weaker}
use Rattle.conf_doc.specs.declared.parts.Part.TheVariants as part
use Rattle.move_core.specs.declared.moves.Move.TheVariants.{Add}
use Rattle.plan_check.specs.NewEntries.{AddsNew, IsNew}
use Rattle.plan_check.proofs.NewAdds.{in_long, in_none, in_test, two_names}
use Rattle.plan_check.proofs.generated.adds_in.Goals as goal

pub returns-then-len-ne2 : goal.returns-then-len-ne2
returns-then-len-ne2 c = (
  λ t. absurd (cc),
  λ a. absurd (in_long c.args.here.now c.args.place.now c.args.new.now (λ two. c.if-len-ne2.true (c.len.ensures.len ∙ two)) a),
)

pub returns-in-Some : goal.returns-in-Some
returns-in-Some c =
    let h = c.args.here.now in
    let p = c.args.place.now in
    let new = c.args.new.now in
    let t = c.name_at-table.result.now in
    let k = c.name_at-key.result.now in
    let long : length p ≡ 2 = omega (arith, c.len.ensures.len) in
    let at = two_names p t k long c.name_at-table.ensures.name c.name_at-key.ensures.name in
    IfOk-weaker c.is_new.result (λ b. IsTrue b ↔ IsNew h t k new) (λ b. IsTrue b ↔ AddsNew h (Add p (part.Entry new)))
    (λ b says. in_test h p new t k at (subst IsSome c.in-Some.ensures.table refl) b says) c.is_new.ensures

pub returns-in-None : goal.returns-in-None
returns-in-None c =
    let h = c.args.here.now in
    let p = c.args.place.now in
    let t = c.name_at-table.result.now in
    let k = c.name_at-key.result.now in
    let long : length p ≡ 2 = omega (arith, c.len.ensures.len) in
    let at = two_names p t k long c.name_at-table.ensures.name c.name_at-key.ensures.name in (
      λ b. absurd (cc),
      λ a. absurd (in_none h p c.args.new.now t k at (sym c.in-None.ensures.table) a),
    )
