use Rattle.std.proofs.Common.{◌↔◌, IsTrue, inl, inr, refl}
use Rattle.std.proofs.lemmas.Result.{IfOk-weaker}
use Rattle.plan_check.specs.NewEntries.{IsAlike, IsSeedOf}
use Rattle.plan_check.proofs.Loops.{not_so}
use Rattle.plan_check.proofs.seeds.is_alike.Goals as goal

pub returns-then-same : goal.returns-then-same
returns-then-same c = (λ t. inl (c.same.ensures.0 c.if-same.true), λ is. refl)

pub returns : goal.returns
returns c =
    let h = c.args.here.now in
    let w = c.args.whole.now in
    let new = c.args.new.now in
    IfOk-weaker c.is_seed.result (λ b. IsTrue b ↔ IsSeedOf h w new) (λ b. IsTrue b ↔ IsAlike h w new)
    (λ b says. (
      λ t. inr (says.0 t),
      λ is. elim is [
        | inl same ↦ absurd (not_so c.same.result c.same.ensures.1 c.if-same.false same)
        | inr seed ↦ says.1 seed
      ],
    ))
    c.is_seed.ensures
