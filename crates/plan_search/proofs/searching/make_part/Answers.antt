use Rattle.plan_search.specs.Stacks.{spots}
use Rattle.plan_search.proofs.Tops.{at_top}
use Rattle.plan_search.proofs.searching.make_part.Goals as goal

pub list-requires-clause-firsts : goal.list-requires-clause-firsts
list-requires-clause-firsts g c =
    at_top (g.S.Expanding.are_firsts c.args.source.now) (spots c.args.stack.now) c.top.result.now c.in_ok-firsts.firsts
    c.top.ensures c.in_ok-firsts.ensures.firsts
