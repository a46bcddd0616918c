-- What a search for a plan answers.
use Rattle.std.specs.Prelude.{◌≡◌, ◌≢◌, ℕ, ◌<◌, List, length, Result, Ok, Err}
use Rattle.conf_doc.specs.declared.configuration.Config.{Config}
use Rattle.move_core.specs.Contexts.{rulebook}
use Rattle.move_core.specs.Plans.{IsPlan, IsReachable}
use Rattle.move_core.specs.Rulebook.{Rulebook}
use Rattle.move_core.specs.Ways.{AreAtLeast, IsAhead, IsLeast}
use Rattle.move_core.specs.declared.contexts.Ctx.{Ctx}
use Rattle.move_core.specs.declared.moves.Move.{Move}
use Rattle.plan_search.specs.declared.errors.SearchError.{SearchError}
use Rattle.plan_search.specs.declared.errors.SearchError.TheVariants.{Unorderable, Budget, Memory}

-- at least that many configurations are ahead of goal, by positions in the lists of moves
abbrev pub AreAhead : Rulebook → Config → Config → ℕ → Type 0
AreAhead book start goal n = AreAtLeast n (IsAhead book start goal)

-- A plan is one from start to goal, of fewer moves than the budget. There is no order only where goal can't
-- be reached and fewer configurations than the budget can. The budget is met only where as many can be
-- reached that aren't goal. And a plan is the first way, the least by positions, and comes only where fewer
-- configurations than the budget are ahead of goal, as where there is no order; the budget is met only where
-- as many are ahead.
abbrev pub IsSearchAnswer
    : Rulebook → Config → Config → ℕ → Result (List Move) SearchError → Type 0
IsSearchAnswer book start goal n (Ok ms) =
    IsPlan book start goal ms × (length ms < n)
    × IsLeast book start goal ms goal × ¬ AreAhead book start goal n
IsSearchAnswer book start goal n (Err Unorderable) =
    ¬ IsReachable book goal start goal × ¬ AreAtLeast n (IsReachable book goal start)
    × ¬ AreAhead book start goal n
IsSearchAnswer book start goal n (Err (Budget b)) =
    (b ≡ n) × AreAtLeast n (λ x. IsReachable book goal start x × (x ≢ goal))
    × AreAhead book start goal n
IsSearchAnswer book start goal n (Err Memory) = Unit {0}

-- two answers to one question are the same, where memory was there
abbrev pub SearchesAgree : Type 0
SearchesAgree =
    (ctx : Ctx) (start goal : Config) (n : ℕ) (r s : Result (List Move) SearchError)
    → IsSearchAnswer (rulebook ctx) start goal n r → IsSearchAnswer (rulebook ctx) start goal n s
    → r ≢ Err Memory → s ≢ Err Memory → r ≡ s
