use Rattle.std.proofs.Common.{◌≡◌, ◌<◌, length}
use Rattle.plan_search.specs.Searching.{IsUnderWay, weight}
use Rattle.plan_search.specs.Stacks.{configs_of, rest_length, spots, taken}
use Rattle.plan_search.proofs.searching.try_rest.Given as goal

-- the search is under way as before, and the kit can be asked
abbrev pub invariant-loop-mv : goal.invariant-loop-mv
invariant-loop-mv g l = record {
  ready : g.S.Expanding.is_ready l.fn.source l.kit;
  same : l.met ≡ l.fn.met;
  way : IsUnderWay (g.S.Expanding.problem l.fn.source) l.met (spots l.stack) (taken l.stack);
  some : 0 < length (spots l.stack);
  parts : weight (spots l.stack) ≡ weight (spots l.fn.stack);
  configs : configs_of (spots l.stack) ≡ configs_of (spots l.fn.stack);
}

abbrev pub decreases-loop-mv : goal.decreases-loop-mv
decreases-loop-mv g l = rest_length (spots l.stack)
