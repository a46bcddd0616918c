-- What a search may answer.
use Rattle.std.specs.Prelude.{◌≡◌, ℕ, ◌<◌, List, length, Result, Ok, Err}
use Rattle.move_core.specs.Ways.{AreAtLeast}
use Rattle.move_core.specs.declared.moves.Move.{Move}
use Rattle.plan_search.specs.Problems.{Problem, IsAhead, IsFirst, IsRoute, CanReach, CanReachBeside}
use Rattle.plan_search.specs.declared.errors.SearchError.{SearchError}
use Rattle.plan_search.specs.declared.errors.SearchError.TheVariants.{Unorderable, Budget, Memory}

-- A plan is a route to goal with fewer moves than the budget, the first of all simple ones, and fewer
-- configurations than the budget are ahead. There is no order only where there is no route and fewer
-- configurations than the budget can be reached, and so fewer are ahead. The budget is met only where as
-- many can be reached that aren't goal, and as many are ahead.
abbrev pub IsAnswer : Problem → ℕ → Result (List Move) SearchError → Type 0
IsAnswer p n (Ok ms) =
    IsRoute p p.start ms p.goal × (length ms < n)
    × IsFirst p ms × ¬ AreAtLeast n (IsAhead p)
IsAnswer p n (Err Unorderable) =
    ¬ CanReach p p.goal × ¬ AreAtLeast n (CanReach p) × ¬ AreAtLeast n (IsAhead p)
IsAnswer p n (Err (Budget b)) =
    (b ≡ n) × AreAtLeast n (CanReachBeside p) × AreAtLeast n (IsAhead p)
IsAnswer p n (Err Memory) = Unit {0}
