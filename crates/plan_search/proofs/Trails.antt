-- A trail is a route from start, which passes the configurations of the stack.
use Rattle.std.proofs.Common.{◌≡◌, ◌≢◌, ◌⊎◌, inl, inr, suc, List, [], ◌∷◌, ◌++◌, length, reverse, refl, sym, ap, subst, ◌∙◌, append_assoc}
use Rattle.std.proofs.lemmas.List.{append-nil, reverse-append}
use Rattle.std.proofs.lemmas.List.Elements.{Contains-append_cases, Contains-append_left, Contains-append_right, Contains-get_or}
use Rattle.std.proofs.lemmas.List.Quantifiers.{all_pairs_push}
use Rattle.std.specs.List.{AllPairs, Contains}
use Rattle.conf_doc.specs.declared.configuration.Config.{Config}
use Rattle.move_core.specs.Moves.{step}
use Rattle.move_core.specs.Ways.{IsSimple, passed}
use Rattle.move_core.specs.declared.moves.Move.{Move}
use Rattle.plan_search.specs.FirstWays.{IsBefore}
use Rattle.plan_search.specs.Problems.{Problem, IsRoute}
use Rattle.plan_search.specs.Searching.{AreApart, Awaits, IsOn, IsTrail}
use Rattle.plan_search.specs.Stacks.{Spot, but_first}
use Rattle.plan_search.proofs.Members.{first_member, no_member, member_cases}
use Rattle.plan_search.proofs.Orders.{after, parted_before, passed_append, prefix_before}
use Rattle.plan_search.proofs.Pairs.{pairs_one}

-- the first item of a list turned round stands last
pub reverse_cons : {A : Type 0} (x : A) (xs : List A) → reverse (x ∷ xs) ≡ reverse xs ++ x ∷ []
reverse_cons x xs = reverse-append (x ∷ []) xs

-- what follows a list turned round
pub turned_rest : {A : Type 0} (x : A) (xs rest : List A) → reverse (x ∷ xs) ++ rest ≡ reverse xs ++ x ∷ rest
turned_rest x xs rest = ap (λ l. l ++ rest) (reverse_cons x xs) ∙ append_assoc (reverse xs) (x ∷ []) rest

module _ (p : Problem) where
  -- ---- routes

  -- a route leads to the configuration after its moves
  pub route_end : (c : Config) (ms : List Move) (x : Config) → IsRoute p c ms x → x ≡ after c ms
  route_end c [] x r = r
  route_end c (m ∷ ms) x r = route_end (step c m) ms x r.1

  -- what follows some of its moves is a route
  pub route_rest : (c : Config) (ms rest : List Move) (x : Config)
      → IsRoute p c (ms ++ rest) x → IsRoute p (after c ms) rest x
  route_rest c [] rest x r = r
  route_rest c (m ∷ ms) rest x r = route_rest (step c m) ms rest x r.1

  -- one more move
  pub route_push : (c : Config) (ms : List Move) (m : Move) (x : Config)
      → IsRoute p c ms x → p.IsAllowed x m → IsRoute p c (ms ++ m ∷ []) (step x m)
  route_push c [] m x r a = (subst (λ y. p.IsAllowed y m) r a, ap (λ y. step y m) r)
  route_push c (n ∷ ms) m x r a = (r.0, route_push (step c n) ms m x r.1 a)

  -- ---- trails

  pub trail_route : (s : Spot) (ss : List Spot) (ms : List Move)
      → IsTrail p (s ∷ ss) ms → IsRoute p p.start (reverse ms) s.config
  trail_route s [] [] tr = tr
  trail_route s [] (m ∷ ms) tr = absurd tr
  trail_route s (u ∷ ss) [] tr = absurd tr
  trail_route s (u ∷ ss) (m ∷ ms) tr =
      subst (λ l. IsRoute p p.start l s.config) (sym (reverse_cons m ms))
      (subst (IsRoute p p.start (reverse ms ++ m ∷ [])) (sym tr.0.leads)
      (route_push p.start (reverse ms) m u.config (trail_route u ss ms tr.1) tr.0.allowed))

  -- it leads to the last configuration
  pub trail_end : (s : Spot) (ss : List Spot) (ms : List Move)
      → IsTrail p (s ∷ ss) ms → s.config ≡ after p.start (reverse ms)
  trail_end s ss ms tr = route_end p.start (reverse ms) s.config (trail_route s ss ms tr)

  -- it has as many moves as configurations above the first one
  pub trail_length : (s : Spot) (ss : List Spot) (ms : List Move)
      → IsTrail p (s ∷ ss) ms → length ss ≡ length ms
  trail_length s [] [] tr = refl
  trail_length s [] (m ∷ ms) tr = absurd tr
  trail_length s (u ∷ ss) [] tr = absurd tr
  trail_length s (u ∷ ss) (m ∷ ms) tr = ap suc (trail_length u ss ms tr.1)

  -- with one more configuration it passes that one too
  passed_more : (s u : Spot) (ss : List Spot) (m : Move) (ms : List Move)
      → IsTrail p (s ∷ u ∷ ss) (m ∷ ms)
      → passed p.start (reverse (m ∷ ms)) ≡ passed p.start (reverse ms) ++ s.config ∷ []
  passed_more s u ss m ms tr =
      ap (passed p.start) (reverse_cons m ms) ∙ passed_append p.start (reverse ms) m []
      ∙ ap (λ c. passed p.start (reverse ms) ++ c ∷ [])
      (ap (λ c. step c m) (sym (trail_end u ss ms tr.1)) ∙ sym tr.0.leads)

  -- what it passes stands on the stack
  pub passed_on : (s : Spot) (ss : List Spot) (ms : List Move) (c : Config)
      → IsTrail p (s ∷ ss) ms → Contains (passed p.start (reverse ms)) c → IsOn p (s ∷ ss) c
  passed_on s [] [] c tr h = by (member_cases p.start [] c h)
    where
      by : (p.start ≡ c) ⊎ Contains [] c → IsOn p (s ∷ []) c
      by (inl e) = inl (tr ∙ e)
      by (inr n) = absurd (no_member c n)
  passed_on s [] (m ∷ ms) c tr h = absurd tr
  passed_on s (u ∷ ss) [] c tr h = absurd tr
  passed_on s (u ∷ ss) (m ∷ ms) c tr h =
      by (passed_on u ss ms c tr.1)
      (Contains-append_cases (passed p.start (reverse ms)) (s.config ∷ []) c
      (subst (λ l. Contains l c) (passed_more s u ss m ms tr) h))
    where
      by : (Contains (passed p.start (reverse ms)) c → IsOn p (u ∷ ss) c)
          → Contains (passed p.start (reverse ms)) c ⊎ Contains (s.config ∷ []) c → IsOn p (s ∷ u ∷ ss) c
      by below (inl l) = inr (below l)
      by below (inr r) = of (member_cases s.config [] c r)
        where
          of : (s.config ≡ c) ⊎ Contains [] c → IsOn p (s ∷ u ∷ ss) c
          of (inl e) = inl e
          of (inr n) = absurd (no_member c n)

  -- it passes what stands on the stack
  pub on_passed : (s : Spot) (ss : List Spot) (ms : List Move) (c : Config)
      → IsTrail p (s ∷ ss) ms → IsOn p (s ∷ ss) c → Contains (passed p.start (reverse ms)) c
  on_passed s [] [] c tr (inl e) = subst (Contains (p.start ∷ [])) (sym tr ∙ e) (first_member p.start [])
  on_passed s [] [] c tr (inr n) = absurd n
  on_passed s [] (m ∷ ms) c tr h = absurd tr
  on_passed s (u ∷ ss) [] c tr h = absurd tr
  on_passed s (u ∷ ss) (m ∷ ms) c tr (inl e) =
      subst (λ l. Contains l c) (sym (passed_more s u ss m ms tr))
      (Contains-append_right (passed p.start (reverse ms)) (s.config ∷ []) c
      (subst (Contains (s.config ∷ [])) e (first_member s.config [])))
  on_passed s (u ∷ ss) (m ∷ ms) c tr (inr h) =
      subst (λ l. Contains l c) (sym (passed_more s u ss m ms tr))
      (Contains-append_left (passed p.start (reverse ms)) (s.config ∷ []) c (on_passed u ss ms c tr.1 h))

  -- where none stands on the stack twice, none occurs on it twice
  pub trail_simple : (s : Spot) (ss : List Spot) (ms : List Move)
      → IsTrail p (s ∷ ss) ms → AreApart p (s ∷ ss) → IsSimple p.start (reverse ms)
  trail_simple s [] [] tr apart =
      pairs_one (λ a b. a ≢ b) p.start
  trail_simple s [] (m ∷ ms) tr apart = absurd tr
  trail_simple s (u ∷ ss) [] tr apart = absurd tr
  trail_simple s (u ∷ ss) (m ∷ ms) tr apart =
      subst (AllPairs (λ a b. a ≢ b)) (sym (passed_more s u ss m ms tr))
      (all_pairs_push (λ a b. a ≢ b) (passed p.start (reverse ms)) s.config (trail_simple u ss ms tr.1 apart.1)
      (λ k d lt e. apart.0 (passed_on u ss ms s.config tr.1
      (subst (Contains (passed p.start (reverse ms))) e (Contains-get_or (passed p.start (reverse ms)) k d lt)))))

  -- ---- ways that go on where moves are left

  -- whatever follows the trail, it is before a way that goes on below the last configuration
  below_before : (s : Spot) (ss : List Spot) (ms us way : List Move)
      → IsTrail p (s ∷ ss) ms → Awaits p ss (but_first ms) way
      → IsBefore p.Precedes p.start (reverse ms ++ us) way
  below_before s [] ms us way tr w = absurd w
  below_before s (u ∷ ss) [] us way tr w = absurd tr
  below_before s (u ∷ ss) (m ∷ ms) us way tr (inl at) =
      subst (λ l. IsBefore p.Precedes p.start l way) (sym (turned_rest m ms us))
      (subst (IsBefore p.Precedes p.start (reverse ms ++ m ∷ us)) (sym at.2)
      (parted_before p.Precedes p.start (reverse ms) m at.0 us at.1
      (subst (λ c. p.Precedes c m at.0) (trail_end u ss ms tr.1) (tr.0.first at.0 at.3))))
  below_before s (u ∷ ss) (m ∷ ms) us way tr (inr w) =
      subst (λ l. IsBefore p.Precedes p.start l way) (sym (turned_rest m ms us))
      (below_before u ss ms (m ∷ us) way tr.1 w)

  -- the trail is before a way that goes on where moves are left
  pub waiting_before : (s : Spot) (ss : List Spot) (ms way : List Move)
      → IsTrail p (s ∷ ss) ms → Awaits p (s ∷ ss) ms way → IsBefore p.Precedes p.start (reverse ms) way
  waiting_before s ss ms way tr (inl at) =
      subst (IsBefore p.Precedes p.start (reverse ms)) (sym at.2) (prefix_before p.Precedes p.start (reverse ms) at.0 at.1)
  waiting_before s ss ms way tr (inr w) =
      subst (λ l. IsBefore p.Precedes p.start l way) (append-nil (reverse ms))
      (below_before s ss ms [] way tr w)
