use Rattle.std.proofs.Common.{◌↔◌, IsTrue}
use Rattle.std.proofs.lemmas.Result.{IfOk-weaker}
use Rattle.plan_check.specs.NewEntries.{IsAlike, IsNew}
use Rattle.plan_check.specs.declared.seeds.Whole.{Whole}
use Rattle.plan_check.proofs.Loops.{not_so}
use Rattle.plan_check.proofs.NewAdds.{is_none, is_there, new_test}
use Rattle.plan_check.proofs.generated.is_new.Goals as goal

pub returns-then-has_entry : goal.returns-then-has_entry
returns-then-has_entry c = (
  λ t. absurd cc,
  λ is. absurd (is_there c.args.here.now c.args.table.now c.args.key.now c.args.new.now (c.has_entry.ensures.0 c.if-has_entry.true) is),
)

pub returns-in-Some : goal.returns-in-Some
returns-in-Some c =
    let h = c.args.here.now in
    let t = c.args.table.now in
    let k = c.args.key.now in
    let new = c.args.new.now in
    let w : Whole = record { table = c.args.table; key = c.args.key; entry = c.in-Some.entry } in
    IfOk-weaker c.is_alike.result (λ b. IsTrue b ↔ IsAlike h w new) (λ b. IsTrue b ↔ IsNew h t k new)
    (λ b says. new_test h t k new c.in-Some.entry.now (not_so c.has_entry.result c.has_entry.ensures.1 c.if-has_entry.false) c.in-Some.ensures.entry b says)
    c.is_alike.ensures

pub returns-in-None : goal.returns-in-None
returns-in-None c = (
  λ t. absurd cc,
  λ is. absurd (is_none c.args.here.now c.args.table.now c.args.key.now c.args.new.now c.in-None.ensures.entry is),
)
