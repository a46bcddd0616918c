use Rattle.move_core.specs.Generated.{IsItemRemoved}
use Rattle.plan_check.proofs.ItemLists.{lists_test}
use Rattle.plan_check.proofs.items.removes_item.Goals as goal

pub returns-in-Some : goal.returns-in-Some
returns-in-Some c =
    let i = c.args.i in
    lists_test c.args.cur.now c.args.goal.now c.args.place.now i (λ old new. IsItemRemoved old new i) c.in-Some.old.now c.in-Some.new.now
    c.in-Some.ensures c.goes.result c.goes.ensures

pub returns-in-None : goal.returns-in-None
returns-in-None c = (λ t. absurd cc, λ has. absurd (c.in-None.ensures has.0))
