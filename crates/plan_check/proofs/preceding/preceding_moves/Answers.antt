use Rattle.plan_check.proofs.PrecedingMoves.{preceding}
use Rattle.plan_check.proofs.preceding.preceding_moves.Goals as goal

pub returns : goal.returns
returns c =
    let s = c.args.sought.now in
    let h = s.here.now in
    let law = c.listed_moves_are_defined.ensures in
    preceding s c.new-found.result.items c.add_tables.new.found.items c.add_tables-2.new.found.items
    (λ g is. law.generated h.ctx.now h.cur.now h.goal.now g is)
    (λ m is. law.listed h.ctx.now h.cur.now h.goal.now m c.len-tables.ensures.formed is)
    c.in_ok-add_tables.ensures c.in_ok-add_tables-2.ensures
