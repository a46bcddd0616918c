use Rattle.std.proofs.Common.{sym, subst, ◌∙◌}
use Rattle.plan_search.specs.Searching.{IsUnderWay}
use Rattle.plan_search.specs.Stacks.{spots, taken}
use Rattle.plan_search.proofs.Takings.{passed_on}
use Rattle.plan_search.proofs.Tops.{kept_same}
use Rattle.plan_search.proofs.searching.find_new.Goals as goal

pub loop-alloc-preserved : goal.loop-alloc-preserved
loop-alloc-preserved g c =
    let p = g.S.Expanding.problem c.args.source.now in
    let still = rw c.in-None.is at c.in_ok-found.ensures.found in
    let spent = rw c.in-None.is at c.in_ok-found.ensures.spent in
    record {
      ready = c.pass_on.ensures.ready;
      same = still.0 ∙ c.loop-alloc.invariant.same;
      way =
          subst (λ l. IsUnderWay p l (spots c.pass_on.new.stack) (taken c.pass_on.new.stack)) (sym still.0)
          (passed_on p c.loop-alloc.met (spots c.try_rest.new.stack) (spots c.pass_on.new.stack)
          (taken c.try_rest.new.stack) (taken c.pass_on.new.stack) (g.met.S.Expanding.lawful c.args.source.now)
          spent c.in_ok-pass_on-in-None.ensures.passed still.1);
      kept = c.pass_on.ensures.kept;
    }

pub pass_on-requires-clause-kept : goal.pass_on-requires-clause-kept
pass_on-requires-clause-kept g c =
    kept_same (g.S.Expanding.are_offers c.args.source.now) (g.S.Expanding.are_firsts c.args.source.now)
    (spots c.loop-alloc.stack) (spots c.try_rest.new.stack) c.loop-alloc.kept c.try_rest.ensures.configs c.loop-alloc.invariant.kept
