use Rattle.std.proofs.Common.{◌↔◌, IsTrue}
use Rattle.std.proofs.lemmas.Result.{IfOk-weaker}
use Rattle.plan_check.specs.NewEntries.{HasFree, IsSeedOf}
use Rattle.plan_check.proofs.Loops.{not_so}
use Rattle.plan_check.proofs.seeds.is_seed.Goals as goal

pub returns-then-not-only : goal.returns-then-not-only
returns-then-not-only c = (
  λ t. absurd (cc),
  λ seed. absurd (not_so c.in_ok-only.only c.in_ok-only.ensures.1 c.if-not-only.true (λ f v is. (seed.fields f v).0 is)),
)

pub returns : goal.returns
returns c =
    let h = c.args.here.now in
    let w = c.args.whole.now in
    let new = c.args.new.now in
    let only = c.in_ok-only.ensures.0 c.if-not-only.false in
    IfOk-weaker c.has_free.result (λ b. IsTrue b ↔ HasFree h w new) (λ b. IsTrue b ↔ IsSeedOf h w new)
    (λ b says. (
      λ t. record {
        rising = c.len-fields.ensures.formed.shaped.rising;
        fields = λ f v. (λ is. only f v is, λ both. says.0 t f v both.0 both.1);
      },
      λ seed. says.1 (λ f v is free. (seed.fields f v).1 (is, free)),
    ))
    c.has_free.ensures
