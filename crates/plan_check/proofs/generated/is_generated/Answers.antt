use Rattle.std.proofs.Common.{◌↔◌, IsTrue, inl, inr, refl}
use Rattle.std.proofs.lemmas.Result.{IfOk-weaker}
use Rattle.plan_check.specs.Beginnings.{Begins}
use Rattle.plan_check.specs.NewEntries.{AddsNew}
use Rattle.plan_check.proofs.Generators.{case_of, of_new, of_towards}
use Rattle.plan_check.proofs.Loops.{not_so}
use Rattle.plan_check.proofs.generated.is_generated.Goals as goal

pub returns-then-is_towards : goal.returns-then-is_towards
returns-then-is_towards c = (λ t. of_towards c.args.here.now c.args.mv.now (c.is_towards.ensures.0 c.if-is_towards.true), λ b. refl)

pub returns : goal.returns
returns c =
    let h = c.args.here.now in
    let m = c.args.mv.now in
    IfOk-weaker c.adds_new.result (λ b. IsTrue b ↔ AddsNew h m) (λ b. IsTrue b ↔ Begins h m)
    (λ b says. (
      λ t. of_new h m (says.0 t),
      λ begins. elim (case_of h m begins) [
        | inl towards ↦ absurd (not_so c.is_towards.result c.is_towards.ensures.1 c.if-is_towards.false towards)
        | inr new ↦ says.1 new
      ],
    ))
    c.adds_new.ensures
