-- Which answer a search gives, by what is ahead of goal by positions in the lists of moves.
use Rattle.std.specs.Prelude.{◌≡◌, ◌≢◌, ◌↔◌, ℕ, List, Result, Ok, Err}
use Rattle.conf_doc.specs.declared.configuration.Config.{Config}
use Rattle.move_core.specs.Contexts.{rulebook}
use Rattle.move_core.specs.Plans.{IsReachable}
use Rattle.move_core.specs.Rulebook.{Rulebook}
use Rattle.move_core.specs.Ways.{AreAtLeast, IsAhead, IsLeast}
use Rattle.move_core.specs.declared.contexts.Ctx.{Ctx}
use Rattle.move_core.specs.declared.moves.Move.{Move}
use Rattle.plan_search.specs.Searches.{IsSearchAnswer}
use Rattle.plan_search.specs.declared.errors.SearchError.{SearchError}
use Rattle.plan_search.specs.declared.errors.SearchError.TheVariants.{Unorderable, Budget, Memory}

-- A plan comes exactly where goal can be reached and fewer configurations than the budget are ahead, and is
-- the least way. The budget is met exactly where as many are ahead. There is no order otherwise.
pub record IsExact
    (book : Rulebook) (start goal : Config) (n : ℕ) (r : Result (List Move) SearchError)
    : Type 0 where
  pub plan :
      ((ms : List Move) × (r ≡ Ok ms))
      ↔ (IsReachable book goal start goal × ¬ AreAtLeast n (IsAhead book start goal))
  pub least : (ms : List Move) → r ≡ Ok ms → IsLeast book start goal ms goal
  pub budget : (r ≡ Err (Budget n)) ↔ AreAtLeast n (IsAhead book start goal)
  pub unorderable :
      (r ≡ Err Unorderable)
      ↔ (¬ IsReachable book goal start goal × ¬ AreAtLeast n (IsAhead book start goal))

-- where memory was there
abbrev pub BudgetIsExact : Type 0
BudgetIsExact =
    (ctx : Ctx) (start goal : Config) (n : ℕ) (r : Result (List Move) SearchError)
    → IsSearchAnswer (rulebook ctx) start goal n r → r ≢ Err Memory
    → IsExact (rulebook ctx) start goal n r
