-- What a search keeps true, step by step.
use Rattle.std.proofs.Common.{◌≡◌, ◌≢◌, ◌⊎◌, inl, inr, List, [], ◌∷◌, ◌++◌, reverse, refl, sym, ap, subst, ◌∙◌, arith, length-append}
use Rattle.std.specs.List.{AllPairs, Contains}
use Rattle.std.proofs.lemmas.List.Elements.{All-contains, All-nil, All-push, Contains-append_left, Contains-get_or, Contains-push, Contains-push_cases}
use Rattle.std.proofs.lemmas.List.{append-nil}
use Rattle.std.proofs.lemmas.List.Quantifiers.{all_pairs_push}
use Rattle.conf_doc.specs.declared.configuration.Config.{Config}
use Rattle.move_core.specs.Moves.{step}
use Rattle.move_core.specs.Ways.{passed}
use Rattle.move_core.specs.declared.moves.Move.{Move}
use Rattle.plan_search.specs.FirstWays.{IsBefore}
use Rattle.plan_search.specs.Problems.{Problem, IsAhead, IsLawful, IsRoute, IsSimpleRoute}
use Rattle.plan_search.specs.Searching.{AreAsked, AreMet, Awaits, Begins, IsNextLast, IsOn, IsTakenLast, IsTrail, IsTrying, IsUnderWay, LeadsToGoal, LeadsToNew, Waits}
use Rattle.plan_search.specs.Stacks.{Spot, IsTop, new_spot}
use Rattle.plan_search.proofs.Members.{first_member, later_member, member_cases, no_member}
use Rattle.plan_search.proofs.Orders.{after, passed_append}
use Rattle.plan_search.proofs.Pairs.{pairs_across, pairs_none, pairs_one}
use Rattle.plan_search.proofs.Trails.{on_passed, route_end, route_rest, trail_end, trail_route, trail_simple, turned_rest, waiting_before}

module _ (p : Problem) where
  -- ---- the last configuration

  same_top : (ss : List Spot) (c d : Config) → IsTop ss c → IsTop ss d → c ≡ d
  same_top [] c d a b = absurd a
  same_top (s ∷ ss) c d a b = sym a ∙ b

  top_on : (ss : List Spot) (c : Config) → IsTop ss c → IsOn p ss c
  top_on [] c a = absurd a
  top_on (s ∷ ss) c a = inl a

  top_end : (ss : List Spot) (ms : List Move) (c : Config) → IsTop ss c → IsTrail p ss ms → c ≡ after p.start (reverse ms)
  top_end [] ms c a tr = absurd a
  top_end (s ∷ ss) ms c a tr = sym a ∙ trail_end p s ss ms tr

  top_passed : (ss : List Spot) (ms : List Move) (c z : Config)
      → IsTop ss c → IsTrail p ss ms → IsOn p ss z → Contains (passed p.start (reverse ms)) z
  top_passed [] ms c z a tr on = absurd a
  top_passed (s ∷ ss) ms c z a tr on = on_passed p s ss ms z tr on

  -- at it moves can be asked for, and the next one is listed
  pub top_asked : (ss : List Spot) (c : Config) (m : Move)
      → IsTop ss c → AreAsked p ss → IsNextLast p ss m → p.IsFit c × p.IsListed c m
  top_asked [] c m a asked h = absurd a
  top_asked (s ∷ ss) c m a asked h = (subst p.IsFit a asked.0.fit, subst (λ d. p.IsListed d m) a h.0)

  top_taken : (ss : List Spot) (c next : Config) (m : Move)
      → IsTop ss c → IsNextLast p ss m → p.IsAllowed c m → next ≡ step c m → IsTakenLast p ss m next
  top_taken [] c next m a h allowed is = absurd a
  top_taken (s ∷ ss) c next m a h allowed is = record {
    allowed = subst (λ d. p.IsAllowed d m) (sym a) allowed;
    leads = is ∙ ap (λ d. step d m) (sym a);
    first = h.1;
  }

  waits_on : (ss : List Spot) (c : Config) (m : Move) → Waits p ss c m → IsOn p ss c
  waits_on [] c m w = absurd w
  waits_on (s ∷ ss) c m (inl at) = inl at.0
  waits_on (s ∷ ss) c m (inr below) = inr (waits_on ss c m below)

  -- ---- a move that leads nowhere new

  -- a route from a configuration that was met leads to another, where it keeps off the stack
  walk : (met : List Config) (ss : List Spot)
      → ((c : Config) (m : Move) → Contains met c → p.IsAllowed c m → Contains met (step c m) ⊎ IsOn p ss c)
      → (c : Config) (ms : List Move) (x : Config)
      → Contains met c → IsRoute p c ms x → ((z : Config) → Contains (passed c ms) z → ¬ IsOn p ss z)
      → Contains met x
  walk met ss on c [] x h r off = subst (Contains met) (sym r) h
  walk met ss on c (m ∷ ms) x h r off = by (walk met ss on (step c m) ms x) (on c m h r.0)
    where
      by : (Contains met (step c m) → IsRoute p (step c m) ms x
          → ((z : Config) → Contains (passed (step c m) ms) z → ¬ IsOn p ss z) → Contains met x)
          → Contains met (step c m) ⊎ IsOn p ss c → Contains met x
      by rest (inl there) = rest there r.1 (λ z k. off z (later_member c (passed (step c m) ms) z k))
      by rest (inr stands) = absurd (off c (first_member c (passed (step c m) ms)) stands)

  module _ (met : List Config) (ss : List Spot) (ms : List Move) (mv : Move) (c : Config)
      (t : IsTrying p met ss ms mv) (top : IsTop ss c)
      (there : p.IsAllowed c mv → Contains met (step c mv)) where
    moves_on : (d : Config) (m : Move) → Contains met d → p.IsAllowed d m → Contains met (step d m) ⊎ Waits p ss d m
    moves_on d m known allowed = by (t.on d m known allowed)
      where
        by : (Contains met (step d m) ⊎ Waits p ss d m) ⊎ (IsTop ss d × (m ≡ mv))
            → Contains met (step d m) ⊎ Waits p ss d m
        by (inl h) = h
        by (inr h) =
            let at = same_top ss d c h.0 top in
            let allowed_there : p.IsAllowed c mv =
            subst (p.IsAllowed c) h.1 (subst (λ x. p.IsAllowed x m) at allowed) in
            inl (subst (Contains met) (sym (λ i. step (at i) (h.1 i))) (there allowed_there))

    stays : (d : Config) (m : Move) → Contains met d → p.IsAllowed d m → Contains met (step d m) ⊎ IsOn p ss d
    stays d m known allowed = by (moves_on d m known allowed)
      where
        by : Contains met (step d m) ⊎ Waits p ss d m → Contains met (step d m) ⊎ IsOn p ss d
        by (inl h) = inl h
        by (inr w) = inr (waits_on ss d m w)

    -- a simple way that begins with the move leads to a configuration that was met
    through : (way : List Move) (x : Config) → IsSimpleRoute p way x → Begins p (reverse (mv ∷ ms)) way → Contains met x
    through way x simple begins =
        walk met ss stays (step at mv) begins.0 x
        (subst (λ d. p.IsAllowed d mv → Contains met (step d mv)) ends there rest.0) rest.1
        (λ z k stands.
        pairs_across (λ a b. a ≢ b) (passed p.start (reverse ms)) (passed (step at mv) begins.0) apart z z
        (top_passed ss ms c z top t.standing.trail stands) k refl)
      where
        at : Config
        at = after p.start (reverse ms)

        ends : c ≡ at
        ends = top_end ss ms c top t.standing.trail

        is : way ≡ reverse ms ++ mv ∷ begins.0
        is = begins.1 ∙ turned_rest mv ms begins.0

        rest : IsRoute p at (mv ∷ begins.0) x
        rest = route_rest p p.start (reverse ms) (mv ∷ begins.0) x (subst (λ l. IsRoute p p.start l x) is simple.route)

        apart : AllPairs (λ a b. a ≢ b) (passed p.start (reverse ms) ++ passed (step at mv) begins.0)
        apart =
            subst (AllPairs (λ a b. a ≢ b)) (passed_append p.start (reverse ms) mv begins.0)
            (subst (λ l. AllPairs (λ a b. a ≢ b) (passed p.start l)) is simple.simple)

    pub nowhere_new : IsUnderWay p met ss ms
    nowhere_new = record {
      standing = t.standing;
      on = moves_on;
      ways = λ way x simple. by way x simple (t.ways way x simple);
    }
      where
        by : (way : List Move) (x : Config) → IsSimpleRoute p way x
            → Contains met x ⊎ (Awaits p ss ms way ⊎ Begins p (reverse (mv ∷ ms)) way)
            → Contains met x ⊎ (Awaits p ss ms way ⊎ ⊥)
        by way x simple (inl h) = inl h
        by way x simple (inr (inl a)) = inr (inl a)
        by way x simple (inr (inr b)) = inl (through way x simple b)

  -- ---- a move that leads on

  pub leads_to_goal : (met : List Config) (ss : List Spot) (ms : List Move) (mv : Move) (c : Config)
      → IsTrying p met ss ms mv → IsTop ss c → p.IsAllowed c mv → p.goal ≡ step c mv
      → LeadsToGoal p met ss ms mv
  leads_to_goal met ss ms mv c t top allowed is = record {
    standing = t.standing;
    taken = top_taken ss c p.goal mv top t.next allowed is;
    ways = t.ways;
  }

  pub leads_to_new : (met : List Config) (ss : List Spot) (ms : List Move) (mv : Move) (c next : Config)
      → IsLawful p → IsTrying p met ss ms mv → IsTop ss c → p.IsAllowed c mv → next ≡ step c mv
      → next ≢ p.goal → ¬ Contains met next → LeadsToNew p met ss ms mv next
  leads_to_new met ss ms mv c next lawful t top allowed is other new = record {
    standing = t.standing;
    taken = top_taken ss c next mv top t.next allowed is;
    on = λ d m known leads. by d m (t.on d m known leads);
    ways = t.ways;
    other = other;
    new = new;
    fit = subst p.IsFit (sym is) (lawful.fit c mv (top_asked ss c mv top t.standing.asked t.next).0 allowed);
  }
    where
      by : (d : Config) (m : Move)
          → (Contains met (step d m) ⊎ Waits p ss d m) ⊎ (IsTop ss d × (m ≡ mv))
          → Contains (met ++ next ∷ []) (step d m) ⊎ Waits p ss d m
      by d m (inl (inl h)) = inl (Contains-append_left met (next ∷ []) (step d m) h)
      by d m (inl (inr h)) = inr h
      by d m (inr h) =
          let at = same_top ss d c h.0 top in
          inl (subst (Contains (met ++ next ∷ [])) (is ∙ sym (λ i. step (at i) (h.1 i))) (Contains-push met next))

  -- ---- a configuration expanded

  pub taken_trail : (s : Spot) (ss : List Spot) (ms : List Move) (mv : Move)
      → IsTrail p ss ms → IsTakenLast p ss mv s.config → IsTrail p (s ∷ ss) (mv ∷ ms)
  taken_trail s [] ms mv tr h = absurd h
  taken_trail s (u ∷ ss) ms mv tr h = (h, tr)

  module _ (met : List Config) (ss : List Spot) (ms : List Move) (mv : Move) (next : Config)
      (lawful : IsLawful p) (n : LeadsToNew p met ss ms mv next) where
    new_trail : IsTrail p (new_spot next ∷ ss) (mv ∷ ms)
    new_trail = taken_trail (new_spot next) ss ms mv n.standing.trail n.taken

    -- at a new configuration each allowed move is left
    all_left : (m : Move) → p.IsAllowed next m → Contains [] m ⊎ (p.IsListed next m × ¬ p.IsWithin next 0 m)
    all_left m allowed = inr (lawful.listed next m allowed, lawful.none next m)

    goes_on : (way : List Move) (x : Config) (rest : List Move)
        → IsRoute p p.start way x → way ≡ reverse (mv ∷ ms) ++ rest
        → Contains (met ++ next ∷ []) x ⊎ (Awaits p (new_spot next ∷ ss) (mv ∷ ms) way ⊎ ⊥)
    goes_on way x [] r is =
        inl (subst (Contains (met ++ next ∷ [])) (trail_end p (new_spot next) ss (mv ∷ ms) new_trail
        ∙ sym (route_end p p.start (reverse (mv ∷ ms)) x
        (subst (λ l. IsRoute p p.start l x) (is ∙ append-nil (reverse (mv ∷ ms))) r)))
        (Contains-push met next))
    goes_on way x (m ∷ rest) r is =
        inr (inl (inl (
          m,
          rest,
          is,
          all_left m
              (subst (λ d. p.IsAllowed d m) (sym (trail_end p (new_spot next) ss (mv ∷ ms) new_trail))
              (route_rest p p.start (reverse (mv ∷ ms)) (m ∷ rest) x (subst (λ l. IsRoute p p.start l x) is r)).0),
        )))

    new_ways : (way : List Move) (x : Config) → IsSimpleRoute p way x
        → Contains (met ++ next ∷ []) x ⊎ (Awaits p (new_spot next ∷ ss) (mv ∷ ms) way ⊎ ⊥)
    new_ways way x simple = by (n.ways way x simple)
      where
        by : Contains met x ⊎ (Awaits p ss ms way ⊎ Begins p (reverse (mv ∷ ms)) way)
            → Contains (met ++ next ∷ []) x ⊎ (Awaits p (new_spot next ∷ ss) (mv ∷ ms) way ⊎ ⊥)
        by (inl h) = inl (Contains-append_left met (next ∷ []) x h)
        by (inr (inl a)) = inr (inl (inr a))
        by (inr (inr b)) = goes_on way x b.0 simple.route b.1

    new_on : (c : Config) (m : Move) → Contains (met ++ next ∷ []) c → p.IsAllowed c m
        → Contains (met ++ next ∷ []) (step c m) ⊎ Waits p (new_spot next ∷ ss) c m
    new_on c m known allowed = by (Contains-push_cases met next c known)
      where
        below : Contains (met ++ next ∷ []) (step c m) ⊎ Waits p ss c m
            → Contains (met ++ next ∷ []) (step c m) ⊎ Waits p (new_spot next ∷ ss) c m
        below (inl h) = inl h
        below (inr h) = inr (inr h)

        by : Contains met c ⊎ (next ≡ c)
            → Contains (met ++ next ∷ []) (step c m) ⊎ Waits p (new_spot next ∷ ss) c m
        by (inl h) = below (n.on c m h allowed)
        by (inr is) = inr (inl (is, all_left m (subst (λ d. p.IsAllowed d m) (sym is) allowed)))

    pub under_way_expanded : IsUnderWay p (met ++ next ∷ []) (new_spot next ∷ ss) (mv ∷ ms)
    under_way_expanded =
        let d = n.standing.depth in
        let k = length-append met (next ∷ []) in
        record {
          standing = record {
            trail = new_trail;
            asked = (
              record {
                fit = n.fit;
                parts = omega arith;
                each = All-nil (p.IsListed next);
                order = pairs_none (p.Precedes next);
                later = All-nil _;
              },
              n.standing.asked,
            );
            apart = (λ h. n.new (n.standing.known next h), n.standing.apart);
            known = λ c h. known c h;
            depth = omega (arith, d, k);
          };
          on = new_on;
          ways = new_ways;
        }
      where
        known : (c : Config) → (next ≡ c) ⊎ IsOn p ss c → Contains (met ++ next ∷ []) c
        known c (inl e) = subst (Contains (met ++ next ∷ [])) e (Contains-push met next)
        known c (inr h) = Contains-append_left met (next ∷ []) c (n.standing.known c h)

    -- it is ahead of goal
    new_ahead : AreMet p met → IsAhead p next
    new_ahead a = record {
      other = n.other;
      moves = reverse (mv ∷ ms);
      way = record {
        route = trail_route p (new_spot next) ss (mv ∷ ms) new_trail;
        simple =
            trail_simple p (new_spot next) ss (mv ∷ ms) new_trail under_way_expanded.standing.apart;
      };
      before = λ ns simple. by ns (new_ways ns p.goal simple);
    }
      where
        by : (ns : List Move)
            → Contains (met ++ next ∷ []) p.goal ⊎ (Awaits p (new_spot next ∷ ss) (mv ∷ ms) ns ⊎ ⊥)
            → IsBefore p.Precedes p.start (reverse (mv ∷ ms)) ns
        by ns (inl h) = of (Contains-push_cases met next p.goal h)
          where
            of : Contains met p.goal ⊎ (next ≡ p.goal) → IsBefore p.Precedes p.start (reverse (mv ∷ ms)) ns
            of (inl k) = absurd ((All-contains (IsAhead p) met p.goal a.each k).other refl)
            of (inr e) = absurd (n.other e)
        by ns (inr (inl w)) = waiting_before p (new_spot next) ss (mv ∷ ms) ns new_trail w
        by ns (inr (inr f)) = absurd f

    pub met_expanded : AreMet p met → AreMet p (met ++ next ∷ [])
    met_expanded a = record {
      each = All-push (IsAhead p) met next a.each (new_ahead a);
      distinct =
          all_pairs_push (λ x y. x ≢ y) met next a.distinct
          (λ k d lt e. n.new (subst (Contains met) e (Contains-get_or met k d lt)));
      first = Contains-append_left met (next ∷ []) p.start a.first;
    }

  -- ---- the beginning

  pub met_begun : p.start ≢ p.goal → AreMet p (p.start ∷ [])
  met_begun other = record {
    each = All-push (IsAhead p) [] p.start (All-nil (IsAhead p)) (record {
      other = other;
      moves = [];
      way = record {
        route = refl;
        simple = pairs_one (λ x y. x ≢ y) p.start;
      };
      before = λ ns simple. by ns simple;
    });
    distinct = pairs_one (λ x y. x ≢ y) p.start;
    first = first_member p.start [];
  }
    where
      by : (ns : List Move) → IsSimpleRoute p ns p.goal → IsBefore p.Precedes p.start [] ns
      by [] simple = absurd (other (sym simple.route))
      by (n ∷ ns) simple = tt

  pub under_way_begun : IsLawful p → p.IsFit p.start
      → IsUnderWay p (p.start ∷ []) (new_spot p.start ∷ []) []
  under_way_begun lawful fit = record {
    standing = record {
      trail = refl;
      asked = (
        record {
          fit = fit;
          parts = omega arith;
          each = All-nil (p.IsListed p.start);
          order = pairs_none (p.Precedes p.start);
          later = All-nil _;
        },
        tt,
      );
      apart = (λ h. h, tt);
      known = λ c h. known c h;
      depth = omega arith;
    };
    on = λ c m known allowed. inr (inl (at c known, left m (subst (λ d. p.IsAllowed d m) (sym (at c known)) allowed)));
    ways = λ way x simple. by way x simple.route;
  }
    where
      known : (c : Config) → (p.start ≡ c) ⊎ ⊥ → Contains (p.start ∷ []) c
      known c (inl e) = subst (Contains (p.start ∷ [])) e (first_member p.start [])
      known c (inr n) = absurd n

      at : (c : Config) → Contains (p.start ∷ []) c → p.start ≡ c
      at c h = of (member_cases p.start [] c h)
        where
          of : (p.start ≡ c) ⊎ Contains [] c → p.start ≡ c
          of (inl e) = e
          of (inr n) = absurd (no_member c n)

      left : (m : Move) → p.IsAllowed p.start m → Contains [] m ⊎ (p.IsListed p.start m × ¬ p.IsWithin p.start 0 m)
      left m allowed = inr (lawful.listed p.start m allowed, lawful.none p.start m)

      by : (way : List Move) (x : Config) → IsRoute p p.start way x
          → Contains (p.start ∷ []) x ⊎ (Awaits p (new_spot p.start ∷ []) [] way ⊎ ⊥)
      by [] x r = inl (subst (Contains (p.start ∷ [])) (sym r) (first_member p.start []))
      by (m ∷ way) x r = inr (inl (inl (m, way, refl, left m r.0)))
