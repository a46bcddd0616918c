-- What a search may answer in the end.
use Rattle.std.proofs.Common.{Result, Ok, Err, MatchResult, ◌≡◌, ◌≢◌, ◌⊎◌, inl, inr, ℕ, ◌<◌, ◌≤◌, List, [], ◌∷◌, ◌++◌, length, reverse, refl, sym, ap, subst, ◌∙◌, arith}
use Rattle.std.specs.List.{AllPairs, Contains}
use Rattle.std.proofs.lemmas.List.Elements.{All-contains, All-weaker}
use Rattle.std.proofs.lemmas.List.{append-nil, length-reverse}
use Rattle.conf_doc.specs.declared.configuration.Config.{Config}
use Rattle.move_core.specs.Moves.{step}
use Rattle.move_core.specs.Ways.{AreAtLeast, passed}
use Rattle.move_core.specs.declared.moves.Move.{Move}
use Rattle.plan_search.specs.Answers.{IsAnswer}
use Rattle.plan_search.specs.FirstWays.{IsBefore}
use Rattle.plan_search.specs.Problems.{Problem, CanReach, CanReachBeside, IsAhead, IsFirst, IsLawful, IsRoute, IsSimpleRoute}
use Rattle.plan_search.specs.Searching.{AreMet, Awaits, Begins, IsClosed, IsTrail, IsUnderWay, LeadsToGoal}
use Rattle.plan_search.specs.Stacks.{Spot, new_spot}
use Rattle.plan_search.specs.declared.errors.SearchError.{SearchError}
use Rattle.plan_search.specs.declared.errors.SearchError.TheVariants.{Unorderable, Budget, Memory}
use Rattle.plan_search.proofs.Members.{distinct_fit}
use Rattle.plan_search.proofs.Orders.{after, longer_not_before, not_both_before, passed_append, passed_last}
use Rattle.plan_search.proofs.Pairs.{pairs_across, pairs_one}
use Rattle.plan_search.proofs.Trails.{route_end, route_rest, trail_length, trail_route, trail_simple, waiting_before}
use Rattle.plan_search.proofs.SearchInvariants.{taken_trail}

module _ (p : Problem) where
  -- ---- no plan

  -- where nothing is left, what was met leads nowhere else
  pub closed_spent : (met : List Config) (ms : List Move) → IsUnderWay p met [] ms → IsClosed p met
  closed_spent met ms w c m known allowed = by (w.on c m known allowed)
    where
      by : Contains met (step c m) ⊎ ⊥ → Contains met (step c m)
      by (inl h) = h
      by (inr n) = absurd n

  reached : (met : List Config) (c : Config) (ms : List Move) (x : Config)
      → IsClosed p met → Contains met c → IsRoute p c ms x → Contains met x
  reached met c [] x closed h r = subst (Contains met) (sym r) h
  reached met c (m ∷ ms) x closed h r = reached met (step c m) ms x closed (closed c m h r.0) r.1

  pub goal_unreachable : (met : List Config) → AreMet p met → IsClosed p met → ¬ CanReach p p.goal
  goal_unreachable met a closed way =
      (All-contains (IsAhead p) met p.goal a.each (reached met p.start way.0 p.goal closed a.first way.1)).other refl

  -- what is met is all that is such
  few : (P : Config → Type 0) (met : List Config) (n : ℕ)
      → ((x : Config) → P x → Contains met x) → length met < n → ¬ AreAtLeast n P
  few P met n all below many =
      let le = distinct_fit many.0 met many.3 (λ x h. all x (All-contains P many.0 x many.2 h)) in
      let len = many.1 in
      absurd (omega (arith, le, len, below))

  pub few_reachable : (met : List Config) (n : ℕ)
      → AreMet p met → IsClosed p met → length met < n → ¬ AreAtLeast n (CanReach p)
  few_reachable met n a closed below =
      few (CanReach p) met n (λ x way. reached met p.start way.0 x closed a.first way.1) below

  -- what is ahead can be reached
  ahead_reachable : (x : Config) → IsAhead p x → CanReachBeside p x
  ahead_reachable x h = ((h.moves, h.way.route), h.other)

  pub no_order : (met : List Config) (n : ℕ)
      → AreMet p met → IsClosed p met → length met < n → IsAnswer p n (Err Unorderable)
  no_order met n a closed below = (
    goal_unreachable met a closed,
    few_reachable met n a closed below,
    few (IsAhead p) met n (λ x h. reached met p.start h.moves x closed a.first h.way.route) below,
  )

  pub budget_met : (met : List Config) (n : ℕ) → AreMet p met → length met ≡ n → IsAnswer p n (Err (Budget n))
  budget_met met n a len = (
    refl,
    (met, len, All-weaker (IsAhead p) (CanReachBeside p) ahead_reachable met a.each, a.distinct),
    (met, len, a.each, a.distinct),
  )

  -- ---- a plan

  module _ (met : List Config) (ss : List Spot) (ms : List Move) (mv : Move)
      (lawful : IsLawful p) (a : AreMet p met) (g : LeadsToGoal p met ss ms mv) where
    -- goal, as if it stood on the stack
    goal_trail : IsTrail p (new_spot p.goal ∷ ss) (mv ∷ ms)
    goal_trail = taken_trail p (new_spot p.goal) ss ms mv g.standing.trail g.taken

    -- goal wasn't met
    goal_new : ¬ Contains met p.goal
    goal_new h = (All-contains (IsAhead p) met p.goal a.each h).other refl

    plan_route : IsRoute p p.start (reverse (mv ∷ ms)) p.goal
    plan_route = trail_route p (new_spot p.goal) ss (mv ∷ ms) goal_trail

    plan_simple : IsSimpleRoute p (reverse (mv ∷ ms)) p.goal
    plan_simple = record {
      route = plan_route;
      simple =
          trail_simple p (new_spot p.goal) ss (mv ∷ ms) goal_trail
          (λ h. goal_new (g.standing.known p.goal h), g.standing.apart);
    }

    awaiting : (way : List Move) → Awaits p ss ms way → IsBefore p.Precedes p.start (reverse (mv ∷ ms)) way
    awaiting way w = waiting_before p (new_spot p.goal) ss (mv ∷ ms) way goal_trail (inr w)

    -- a simple way to goal that begins with the plan is the plan
    no_longer : (way rest : List Move) → IsSimpleRoute p way p.goal → way ≡ reverse (mv ∷ ms) ++ rest
        → way ≢ reverse (mv ∷ ms) → ⊥
    no_longer way [] simple is ne = ne (is ∙ append-nil (reverse (mv ∷ ms)))
    no_longer way (m ∷ rest) simple is ne =
        pairs_across (λ x y. x ≢ y) (passed p.start (reverse (mv ∷ ms))) (passed (step at m) rest)
        (subst (AllPairs (λ x y. x ≢ y)) (passed_append p.start (reverse (mv ∷ ms)) m rest)
        (subst (λ l. AllPairs (λ x y. x ≢ y) (passed p.start l)) is simple.simple))
        p.goal p.goal
        (subst (Contains (passed p.start (reverse (mv ∷ ms)))) (sym ends) (passed_last p.start (reverse (mv ∷ ms))))
        (subst (Contains (passed (step at m) rest)) (sym (route_end p (step at m) rest p.goal after_plan.1))
        (passed_last (step at m) rest))
        refl
      where
        at : Config
        at = after p.start (reverse (mv ∷ ms))

        ends : p.goal ≡ at
        ends = route_end p p.start (reverse (mv ∷ ms)) p.goal plan_route

        after_plan : IsRoute p at (m ∷ rest) p.goal
        after_plan =
            route_rest p p.start (reverse (mv ∷ ms)) (m ∷ rest) p.goal
            (subst (λ l. IsRoute p p.start l p.goal) is simple.route)

    plan_first : IsFirst p (reverse (mv ∷ ms))
    plan_first = record {
      simple = plan_simple.simple;
      first = λ ns simple ne. by ns simple ne (g.ways ns p.goal simple);
    }
      where
        by : (ns : List Move) → IsSimpleRoute p ns p.goal → ns ≢ reverse (mv ∷ ms)
            → Contains met p.goal ⊎ (Awaits p ss ms ns ⊎ Begins p (reverse (mv ∷ ms)) ns)
            → IsBefore p.Precedes p.start (reverse (mv ∷ ms)) ns
        by ns simple ne (inl h) = absurd (goal_new h)
        by ns simple ne (inr (inl w)) = awaiting ns w
        by ns simple ne (inr (inr b)) = absurd (no_longer ns b.0 simple b.1 ne)

    -- what is ahead was met
    ahead_met : (x : Config) → IsAhead p x → Contains met x
    ahead_met x h = by (g.ways h.moves x h.way)
      where
        before : IsBefore p.Precedes p.start h.moves (reverse (mv ∷ ms))
        before = h.before (reverse (mv ∷ ms)) plan_simple

        by : Contains met x ⊎ (Awaits p ss ms h.moves ⊎ Begins p (reverse (mv ∷ ms)) h.moves) → Contains met x
        by (inl k) = k
        by (inr (inl w)) =
            absurd (not_both_before p.Precedes lawful.one_way p.start (reverse (mv ∷ ms)) h.moves (awaiting h.moves w) before)
        by (inr (inr b)) =
            absurd (longer_not_before p.Precedes lawful.one_way p.start (reverse (mv ∷ ms)) b.0
            (subst (λ l. IsBefore p.Precedes p.start l (reverse (mv ∷ ms))) b.1 before))

    plan_short : length ms < length met
    plan_short = by ss goal_trail g.standing.depth
      where
        by : (us : List Spot) → IsTrail p (new_spot p.goal ∷ us) (mv ∷ ms) → length us ≤ length met → length ms < length met
        by us tr le = let e = trail_length p (new_spot p.goal) us (mv ∷ ms) tr in omega (arith, e, le)

    -- the whole plan, or want of memory, is an answer
    pub whole_answer : (n : ℕ) (r : Result (List Move) SearchError)
        → MatchResult r (λ made. made ≡ reverse (mv ∷ ms)) (λ e. e ≡ Memory)
        → length met < n → IsAnswer p n r
    whole_answer n (Ok made) is below =
        let len = ap length is in
        let same = length-reverse (mv ∷ ms) in
        let short = plan_short in (
          subst (λ l. IsRoute p p.start l p.goal) (sym is) plan_route,
          omega (arith, len, same, short, below),
          subst (IsFirst p) (sym is) plan_first,
          few (IsAhead p) met n ahead_met below,
        )
    whole_answer n (Err Unorderable) is below = absurd cc
    whole_answer n (Err (Budget b)) is below = absurd cc
    whole_answer n (Err Memory) is below = tt

  -- ---- nothing to do

  pub no_moves : (n : ℕ) → 0 < n → p.start ≡ p.goal → IsAnswer p n (Ok [])
  no_moves n some same = (
    sym same,
    some,
    record {
      simple = pairs_one (λ x y. x ≢ y) p.start;
      first = λ ns simple ne. by ns simple ne;
    },
    few (IsAhead p) [] n (λ x h. absurd (not_ahead x h.moves (h.before [] start_simple))) some,
  )
    where
      start_simple : IsSimpleRoute p [] p.goal
      start_simple = record {
        route = sym same;
        simple = pairs_one (λ x y. x ≢ y) p.start;
      }

      by : (ns : List Move) → IsSimpleRoute p ns p.goal → ns ≢ [] → IsBefore p.Precedes p.start [] ns
      by [] simple ne = absurd (ne refl)
      by (n ∷ ns) simple ne = tt

      not_ahead : (x : Config) (ms : List Move) → ¬ IsBefore p.Precedes p.start ms []
      not_ahead x [] h = h
      not_ahead x (m ∷ ms) h = h
