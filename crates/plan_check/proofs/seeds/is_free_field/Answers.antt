use Rattle.std.proofs.Common.{◌↔◌, IsTrue}
use Rattle.std.proofs.lemmas.Result.{IfOk-weaker}
use Rattle.plan_check.specs.NewEntries.{IsFree, IsFreeField}
use Rattle.plan_check.proofs.seeds.is_free_field.Goals as goal

pub returns : goal.returns
returns c =
    let h = c.args.here.now in
    let w = c.args.whole.now in
    let f = c.args.field.now in
    IfOk-weaker c.is_free.result (λ b. IsTrue b ↔ IsFree h w f) (λ b. IsTrue b ↔ IsFreeField h w f c.args.value.now)
    (λ b says. (λ t. (c.has_field.ensures.0 c.if-not-has_field.false, says.0 t), λ is. says.1 is.1)) c.is_free.ensures
