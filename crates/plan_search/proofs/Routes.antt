-- A route of the problem of a kit is a way, and an answer of it one about ways.
use Rattle.std.proofs.Common.{◌≢◌, ℕ, List, [], ◌∷◌, Result, Ok, Err}
use Rattle.std.proofs.lemmas.List.Elements.{All-weaker}
use Rattle.conf_doc.specs.declared.configuration.Config.{Config}
use Rattle.move_core.specs.Contexts.{rulebook}
use Rattle.move_core.specs.Moves.{step}
use Rattle.move_core.specs.Plans.{IsReachable, IsWay}
use Rattle.move_core.specs.Ways.{AreAtLeast, IsAhead as IsAheadByPositions, IsSimpleWay}
use Rattle.move_core.specs.declared.contexts.Ctx.{Ctx}
use Rattle.move_core.specs.declared.moves.Move.{Move}
use Rattle.plan_search.specs.Answers.{IsAnswer}
use Rattle.plan_search.specs.FirstWays.{IsAheadOfGoal, IsFirstWay}
use Rattle.plan_search.specs.Kits.{move_problem}
use Rattle.plan_search.specs.Problems.{CanReach, CanReachBeside, IsAhead, IsFirst, IsRoute, IsSimpleRoute}
use Rattle.plan_search.specs.Searches.{AreAhead, IsSearchAnswer}
use Rattle.plan_search.specs.declared.errors.SearchError.{SearchError}
use Rattle.plan_search.specs.declared.errors.SearchError.TheVariants.{Unorderable, Budget, Memory}
use Rattle.plan_search.proofs.Positions.{ahead_by_chains, ahead_by_positions, first_is_least}

-- at least as many are such where more is asked of each
many : (n : ℕ) (P Q : Config → Type 0) → ((x : Config) → P x → Q x) → AreAtLeast n P → AreAtLeast n Q
many n P Q f h = (h.0, h.1, All-weaker P Q f h.0 h.2, h.3)

module _ (ctx : Ctx) (start goal : Config) where
  way_of_route : (c : Config) (ms : List Move) (x : Config)
      → IsRoute (move_problem ctx start goal) c ms x → IsWay (rulebook ctx) goal c ms x
  way_of_route c [] x r = r
  way_of_route c (m ∷ ms) x r = (r.0, way_of_route (step c m) ms x r.1)

  route_of_way : (c : Config) (ms : List Move) (x : Config)
      → IsWay (rulebook ctx) goal c ms x → IsRoute (move_problem ctx start goal) c ms x
  route_of_way c [] x w = w
  route_of_way c (m ∷ ms) x w = (w.0, route_of_way (step c m) ms x w.1)

  reachable : (x : Config) → CanReach (move_problem ctx start goal) x → IsReachable (rulebook ctx) goal start x
  reachable x r = (r.0, way_of_route start r.0 x r.1)

  can_reach : (x : Config) → IsReachable (rulebook ctx) goal start x → CanReach (move_problem ctx start goal) x
  can_reach x w = (w.0, route_of_way start w.0 x w.1)

  simple_way : (ms : List Move) (x : Config)
      → IsSimpleRoute (move_problem ctx start goal) ms x → IsSimpleWay (rulebook ctx) start goal ms x
  simple_way ms x r = record { way = way_of_route start ms x r.route; simple = r.simple }

  simple_route : (ms : List Move) (x : Config)
      → IsSimpleWay (rulebook ctx) start goal ms x → IsSimpleRoute (move_problem ctx start goal) ms x
  simple_route ms x w = record { route = route_of_way start ms x w.way; simple = w.simple }

  first_way : (ms : List Move) → IsRoute (move_problem ctx start goal) start ms goal
      → IsFirst (move_problem ctx start goal) ms → IsFirstWay (rulebook ctx) start goal ms
  first_way ms r is = record {
    way = record { way = way_of_route start ms goal r; simple = is.simple };
    first = λ ns simple other. is.first ns (simple_route ns goal simple) other;
  }

  ahead_of_goal : (x : Config) → IsAhead (move_problem ctx start goal) x → IsAheadOfGoal (rulebook ctx) start goal x
  ahead_of_goal x is = record {
    other = is.other;
    moves = is.moves;
    way = simple_way is.moves x is.way;
    before = λ ns simple. is.before ns (simple_route ns goal simple);
  }

  is_ahead : (x : Config) → IsAheadOfGoal (rulebook ctx) start goal x → IsAhead (move_problem ctx start goal) x
  is_ahead x is = record {
    other = is.other;
    moves = is.moves;
    way = simple_route is.moves x is.way;
    before = λ ns simple. is.before ns (simple_way ns goal simple);
  }

  -- as many are ahead by positions
  many_ahead : (n : ℕ) → AreAtLeast n (IsAhead (move_problem ctx start goal)) → AreAhead (rulebook ctx) start goal n
  many_ahead n h =
      many n (IsAhead (move_problem ctx start goal)) (IsAheadByPositions (rulebook ctx) start goal)
      (λ x is. ahead_by_positions ctx start goal x (ahead_of_goal x is)) h

  not_many : (n : ℕ) → ¬ AreAtLeast n (IsAhead (move_problem ctx start goal)) → ¬ AreAhead (rulebook ctx) start goal n
  not_many n few h =
      few (many n (IsAheadByPositions (rulebook ctx) start goal) (IsAhead (move_problem ctx start goal))
      (λ x is. is_ahead x (ahead_by_chains ctx start goal x is)) h)

  pub search_answer : (n : ℕ) (r : Result (List Move) SearchError)
      → IsAnswer (move_problem ctx start goal) n r → IsSearchAnswer (rulebook ctx) start goal n r
  search_answer n (Ok ms) is =
      (way_of_route start ms goal is.0, is.1, first_is_least ctx start goal ms (first_way ms is.0 is.2), not_many n is.3)
  search_answer n (Err Unorderable) is = (
    λ w. is.0 (can_reach goal w),
    λ h. is.1 (many n (IsReachable (rulebook ctx) goal start) (CanReach (move_problem ctx start goal)) can_reach h),
    not_many n is.2,
  )
  search_answer n (Err (Budget b)) is = (
    is.0,
    many n (CanReachBeside (move_problem ctx start goal)) (λ x. IsReachable (rulebook ctx) goal start x × (x ≢ goal))
        (λ x h. (reachable x h.0, h.1)) is.1,
    many_ahead n is.2,
  )
  search_answer n (Err Memory) is = tt
