use Rattle.std.proofs.Common.{◌≡◌, ◌+◌, ◌-◌, ◌<◌, length}
use Rattle.plan_search.specs.Searching.{AreMet, IsUnderWay}
use Rattle.plan_search.specs.Stacks.{spots, taken}
use Rattle.plan_search.proofs.searching.go_on.Given as goal

-- the search is under way, fewer than the budget were met, and each was a step
abbrev pub invariant-loop-stack : goal.invariant-loop-stack
invariant-loop-stack g l = record {
  ready : g.S.Expanding.is_ready l.fn.source l.kit;
  met : AreMet (g.S.Expanding.problem l.fn.source) l.met;
  way : IsUnderWay (g.S.Expanding.problem l.fn.source) l.met (spots l.stack) (taken l.stack);
  below : length l.met < l.fn.budget;
  steps : l.steps + length l.fn.met ≡ l.fn.steps + length l.met;
}

abbrev pub decreases-loop-stack : goal.decreases-loop-stack
decreases-loop-stack g l = l.fn.budget - length l.met
