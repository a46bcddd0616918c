use Rattle.std.proofs.Common.{◌≡◌, ◌↔◌, IsTrue, IsSome, length, refl, sym, subst, ◌∙◌, arith}
use Rattle.std.proofs.lemmas.Result.{IfOk-weaker}
use Rattle.conf_doc.proofs.WellFormed.{named_at}
use Rattle.conf_doc.specs.declared.parts.Part.TheVariants as part
use Rattle.move_core.specs.declared.moves.Move.TheVariants.{Add}
use Rattle.plan_check.specs.NewEntries.{AddsNew, IsNew}
use Rattle.plan_check.proofs.NewAdds.{alone_long, alone_many, alone_some, alone_test, one_name, one_pair}
use Rattle.plan_check.proofs.generated.adds_alone.Goals as goal

pub returns-then-len-ne1 : goal.returns-then-len-ne1
returns-then-len-ne1 c = (
  λ t. absurd (cc),
  λ a. absurd (alone_long c.args.here.now c.args.place.now c.args.table.now (λ one. c.if-len-ne1.true (c.len.ensures.len ∙ one)) a),
)

pub returns-then-len-ne1-2 : goal.returns-then-len-ne1-2
returns-then-len-ne1-2 c = (
  λ t. absurd (cc),
  λ a. absurd (alone_many c.args.here.now c.args.place.now c.args.table.now (λ one. c.if-len-ne1-2.true (c.len-2.ensures.len ∙ one)) a),
)

pub is_new-requires-clause-key : goal.is_new-requires-clause-key
is_new-requires-clause-key c =
    let at = c.pair_at.ensures in
    named_at c.args.table.now 0 (c.pair_at.result.0.now, c.pair_at.result.1.now) at.formed.shaped.named at.pair

pub returns-in-Some : goal.returns-in-Some
returns-in-Some c =
    let h = c.args.here.now in
    let p = c.args.place.now in
    let t = c.name_at-name.result.now in
    let long : length p ≡ 1 = omega (arith, c.len.ensures.len) in (
      λ b. absurd (cc),
      λ a. absurd (alone_some h p c.args.table.now t (one_name p t long c.name_at-name.ensures.name) (subst IsSome c.in-Some.ensures.table refl) a),
    )

pub returns-in-None : goal.returns-in-None
returns-in-None c =
    let h = c.args.here.now in
    let p = c.args.place.now in
    let x = c.args.table.now in
    let t = c.name_at-name.result.now in
    let k = c.pair_at.result.0.now in
    let n = c.pair_at.result.1.now in
    let long : length p ≡ 1 = omega (arith, c.len.ensures.len) in
    let single : length x ≡ 1 = omega (arith, c.len-2.ensures.len) in
    IfOk-weaker c.is_new.result (λ b. IsTrue b ↔ IsNew h t k n) (λ b. IsTrue b ↔ AddsNew h (Add p (part.Table x)))
    (λ b says. alone_test h p x t k n (one_name p t long c.name_at-name.ensures.name) (one_pair x (k, n) single c.pair_at.ensures.pair) (sym c.in-None.ensures.table) b says) c.is_new.ensures
