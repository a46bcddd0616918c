use Rattle.std.proofs.Common.{Some, sym, subst, ◌∙◌}
use Rattle.plan_search.specs.Searching.{IsTrying}
use Rattle.plan_search.specs.Stacks.{spots, taken}
use Rattle.plan_search.proofs.Takings.{trying_taken, weight_taken}
use Rattle.plan_search.proofs.Tops.{configs_taken}
use Rattle.plan_search.proofs.searching.try_rest.Goals as goal

pub try_one-requires-clause-trying : goal.try_one-requires-clause-trying
try_one-requires-clause-trying g c =
    let p = g.S.Expanding.problem c.args.source.now in
    subst (λ l. IsTrying p c.loop-mv.met (spots c.take_at_top.new.self) l c.in-Some.mv) (sym c.take_at_top.ensures.taken)
    (trying_taken p c.loop-mv.met (spots c.loop-mv.stack) (spots c.take_at_top.new.self) (taken c.loop-mv.stack) c.in-Some.mv
    c.in-Some.ensures.spots c.loop-mv.invariant.way)

pub returns-in-Some-2-clause-parts : goal.returns-in-Some-2-clause-parts
returns-in-Some-2-clause-parts g c =
    weight_taken (spots c.loop-mv.stack) (spots c.take_at_top.new.self) c.in-Some.mv c.in-Some.ensures.spots
    ∙ c.loop-mv.invariant.parts

pub returns-in-Some-2-clause-configs : goal.returns-in-Some-2-clause-configs
returns-in-Some-2-clause-configs g c =
    configs_taken (spots c.loop-mv.stack) (spots c.take_at_top.new.self) (Some c.in-Some.mv) c.in-Some.ensures.spots
    ∙ c.loop-mv.invariant.configs
