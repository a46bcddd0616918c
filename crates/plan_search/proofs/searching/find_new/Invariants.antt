use Rattle.std.proofs.Common.{◌≡◌}
use Rattle.plan_search.specs.Searching.{IsUnderWay, weight}
use Rattle.plan_search.specs.Stacks.{IsKept, spots, taken}
use Rattle.plan_search.proofs.searching.find_new.Given as goal

-- the search is under way as before, the kit can be asked, and what is kept is of the last configuration
abbrev pub invariant-loop-alloc : goal.invariant-loop-alloc
invariant-loop-alloc g l = record {
  ready : g.S.Expanding.is_ready l.fn.source l.kit;
  same : l.met ≡ l.fn.met;
  way : IsUnderWay (g.S.Expanding.problem l.fn.source) l.met (spots l.stack) (taken l.stack);
  kept : IsKept (g.S.Expanding.are_offers l.fn.source) (g.S.Expanding.are_firsts l.fn.source) (spots l.stack) l.kept;
}

abbrev pub decreases-loop-alloc : goal.decreases-loop-alloc
decreases-loop-alloc g l = weight (spots l.stack)
