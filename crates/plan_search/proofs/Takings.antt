-- What stays true when a move is taken, a part is made, or a configuration is dropped.
use Rattle.std.proofs.Common.{◌≡◌, ◌⊎◌, inl, inr, ◌<◌, List, [], ◌∷◌, ◌++◌, length, reverse, None, Some, refl, sym, ap, subst, ◌∙◌, arith}
use Rattle.std.specs.List.{All, AllPairs, Contains}
use Rattle.std.proofs.lemmas.List.Elements.{All-head, All-tail}
use Rattle.conf_doc.specs.declared.configuration.Config.{Config}
use Rattle.move_core.specs.Moves.{step}
use Rattle.move_core.specs.declared.moves.Move.{Move}
use Rattle.plan_search.specs.Problems.{Problem, IsLawful, IsPart, PrecedesLater, part_count}
use Rattle.plan_search.specs.Searching.{Awaits, Begins, IsAsked, IsLeft, IsPassed, IsStanding, IsTrail, IsTrying, IsUnderWay, Waits, weight}
use Rattle.plan_search.specs.Stacks.{Spot, IsAfterTop, IsSpent, IsTop, but_first, next_spot, rest_length, rest_spot}
use Rattle.plan_search.proofs.Members.{is_member, member_cases, no_member}
use Rattle.plan_search.proofs.Pairs.{pairs_first, pairs_tail}
use Rattle.plan_search.proofs.Trails.{turned_rest}

module _ (p : Problem) where
  -- a trail speaks of the last configuration alone, not of what is left there
  pub same_trail : (s t : Spot) → s.config ≡ t.config → (ss : List Spot) (ms : List Move)
      → IsTrail p (s ∷ ss) ms → IsTrail p (t ∷ ss) ms
  same_trail s t e [] [] tr = sym e ∙ tr
  same_trail s t e [] (m ∷ ms) tr = tr
  same_trail s t e (u ∷ ss) [] tr = tr
  same_trail s t e (u ∷ ss) (m ∷ ms) tr =
      (record { allowed = tr.0.allowed; leads = sym e ∙ tr.0.leads; first = tr.0.first }, tr.1)

  -- ---- a move taken

  module _ (s : Spot) (m : Move) (rest : List Move) (were : s.rest ≡ m ∷ rest) where
    -- what was left is the move or is left still
    left_taken : (n : Move) → IsLeft p s n → (m ≡ n) ⊎ IsLeft p (rest_spot s rest) n
    left_taken n (inl h) = by (member_cases m rest n (subst (λ l. Contains l n) were h))
      where
        by : (m ≡ n) ⊎ Contains rest n → (m ≡ n) ⊎ IsLeft p (rest_spot s rest) n
        by (inl e) = inl e
        by (inr r) = inr (inl r)
    left_taken n (inr h) = inr (inr h)

    -- the move stands before what is left still
    first_taken : IsAsked p s → (n : Move) → IsLeft p (rest_spot s rest) n → p.Precedes s.config m n
    first_taken a n (inl h) =
        pairs_first (p.Precedes s.config) m rest (subst (AllPairs (p.Precedes s.config)) were a.order) n h
    first_taken a n (inr h) =
        All-head (PrecedesLater p s.config s.parts) m rest
        (subst (All (PrecedesLater p s.config s.parts)) were a.later) n h.0 h.1

    asked_taken : IsAsked p s → IsAsked p (rest_spot s rest)
    asked_taken a = record {
      fit = a.fit;
      parts = a.parts;
      each = All-tail (p.IsListed s.config) m rest (subst (All (p.IsListed s.config)) were a.each);
      order = pairs_tail (p.Precedes s.config) m rest (subst (AllPairs (p.Precedes s.config)) were a.order);
      later =
          All-tail (PrecedesLater p s.config s.parts) m rest
          (subst (All (PrecedesLater p s.config s.parts)) were a.later);
    }

    standing_taken : (met : List Config) (ss : List Spot) (ms : List Move)
        → IsStanding p met (s ∷ ss) ms → IsStanding p met (rest_spot s rest ∷ ss) ms
    standing_taken met ss ms st = record {
      trail = same_trail s (rest_spot s rest) refl ss ms st.trail;
      asked = (asked_taken st.asked.0, st.asked.1);
      apart = st.apart;
      known = st.known;
      depth = st.depth;
    }

    waits_taken : (ss : List Spot) (c : Config) (n : Move)
        → Waits p (s ∷ ss) c n → Waits p (rest_spot s rest ∷ ss) c n ⊎ ((s.config ≡ c) × (n ≡ m))
    waits_taken ss c n (inl at) = by (left_taken n at.1)
      where
        by : (m ≡ n) ⊎ IsLeft p (rest_spot s rest) n
            → Waits p (rest_spot s rest ∷ ss) c n ⊎ ((s.config ≡ c) × (n ≡ m))
        by (inl e) = inr (at.0, sym e)
        by (inr l) = inl (inl (at.0, l))
    waits_taken ss c n (inr below) = inl (inr below)

    awaits_taken : (ss : List Spot) (ms way : List Move)
        → Awaits p (s ∷ ss) ms way → Awaits p (rest_spot s rest ∷ ss) ms way ⊎ Begins p (reverse (m ∷ ms)) way
    awaits_taken ss ms way (inl at) = by (left_taken at.0 at.3)
      where
        by : (m ≡ at.0) ⊎ IsLeft p (rest_spot s rest) at.0
            → Awaits p (rest_spot s rest ∷ ss) ms way ⊎ Begins p (reverse (m ∷ ms)) way
        by (inl e) =
            inr (at.1, at.2 ∙ ap (λ n. reverse ms ++ n ∷ at.1) (sym e) ∙ sym (turned_rest m ms at.1))
        by (inr l) = inl (inl (at.0, at.1, at.2, l))
    awaits_taken ss ms way (inr w) = inl (inr w)

    trying : (met : List Config) (ss : List Spot) (ms : List Move)
        → IsUnderWay p met (s ∷ ss) ms → IsTrying p met (rest_spot s rest ∷ ss) ms m
    trying met ss ms w = record {
      standing = standing_taken met ss ms w.standing;
      next = (
        All-head (p.IsListed s.config) m rest (subst (All (p.IsListed s.config)) were w.standing.asked.0.each),
        first_taken w.standing.asked.0,
      );
      on = λ c n known allowed. on c n (w.on c n known allowed);
      ways = λ way x simple. ways way x (w.ways way x simple);
    }
      where
        on : (c : Config) (n : Move) → Contains met (step c n) ⊎ Waits p (s ∷ ss) c n
            → (Contains met (step c n) ⊎ Waits p (rest_spot s rest ∷ ss) c n)
            ⊎ (IsTop (rest_spot s rest ∷ ss) c × (n ≡ m))
        on c n (inl h) = inl (inl h)
        on c n (inr waits) = of (waits_taken ss c n waits)
          where
            of : Waits p (rest_spot s rest ∷ ss) c n ⊎ ((s.config ≡ c) × (n ≡ m))
                → (Contains met (step c n) ⊎ Waits p (rest_spot s rest ∷ ss) c n)
                ⊎ (IsTop (rest_spot s rest ∷ ss) c × (n ≡ m))
            of (inl h) = inl (inr h)
            of (inr h) = inr h

        ways : (way : List Move) (x : Config)
            → Contains met x ⊎ (Awaits p (s ∷ ss) ms way ⊎ ⊥)
            → Contains met x ⊎ (Awaits p (rest_spot s rest ∷ ss) ms way ⊎ Begins p (reverse (m ∷ ms)) way)
        ways way x (inl h) = inl h
        ways way x (inr (inl a)) = inr (awaits_taken ss ms way a)
        ways way x (inr (inr n)) = absurd n

  pub trying_taken : (met : List Config) (ss new : List Spot) (ms : List Move) (m : Move)
      → IsAfterTop ss new (Some m) → IsUnderWay p met ss ms → IsTrying p met new ms m
  trying_taken met [] new ms m h w = absurd h
  trying_taken met (s ∷ ss) new ms m h w =
      subst (λ l. IsTrying p met l ms m) (sym h.2) (trying s m h.0 h.1 met ss ms w)

  -- with none left of the part all stays
  pub spent_same : (ss new : List Spot) → IsAfterTop ss new None → (new ≡ ss) × IsSpent new
  spent_same [] new h = absurd h
  spent_same (s ∷ ss) new h = (h.1, subst IsSpent (sym h.1) h.0)

  -- ---- a part made

  module _ (lawful : IsLawful p) (s : Spot) (moves : List Move) (empty : s.rest ≡ [])
      (more : s.parts < part_count) (part : IsPart p s.config s.parts moves) where
    left_filled : (n : Move) → IsLeft p s n → IsLeft p (next_spot s moves) n
    left_filled n (inl h) = absurd (no_member n (subst (λ l. Contains l n) empty h))
    left_filled n (inr h) = by (is_member lawful.told moves n)
      where
        by : Contains moves n ⊎ ¬ Contains moves n → IsLeft p (next_spot s moves) n
        by (inl there) = inl there
        by (inr out) = inr (h.0, λ within. out (part.all n within h.1))

    waits_filled : (ss : List Spot) (c : Config) (n : Move)
        → Waits p (s ∷ ss) c n → Waits p (next_spot s moves ∷ ss) c n
    waits_filled ss c n (inl at) = inl (at.0, left_filled n at.1)
    waits_filled ss c n (inr below) = inr below

    awaits_filled : (ss : List Spot) (ms way : List Move)
        → Awaits p (s ∷ ss) ms way → Awaits p (next_spot s moves ∷ ss) ms way
    awaits_filled ss ms way (inl at) = inl (at.0, at.1, at.2, left_filled at.0 at.3)
    awaits_filled ss ms way (inr w) = inr w

    asked_filled : IsAsked p s → IsAsked p (next_spot s moves)
    asked_filled a = record {
      fit = a.fit;
      parts = omega (arith, more);
      each = part.each;
      order = part.order;
      later = part.later;
    }

    filled : (met : List Config) (ss : List Spot) (ms : List Move)
        → IsUnderWay p met (s ∷ ss) ms → IsUnderWay p met (next_spot s moves ∷ ss) ms
    filled met ss ms w = record {
      standing = record {
        trail = same_trail s (next_spot s moves) refl ss ms w.standing.trail;
        asked = (asked_filled w.standing.asked.0, w.standing.asked.1);
        apart = w.standing.apart;
        known = w.standing.known;
        depth = w.standing.depth;
      };
      on = λ c n known allowed. on c n (w.on c n known allowed);
      ways = λ way x simple. ways way x (w.ways way x simple);
    }
      where
        on : (c : Config) (n : Move) → Contains met (step c n) ⊎ Waits p (s ∷ ss) c n
            → Contains met (step c n) ⊎ Waits p (next_spot s moves ∷ ss) c n
        on c n (inl h) = inl h
        on c n (inr waits) = inr (waits_filled ss c n waits)

        ways : (way : List Move) (x : Config)
            → Contains met x ⊎ (Awaits p (s ∷ ss) ms way ⊎ ⊥)
            → Contains met x ⊎ (Awaits p (next_spot s moves ∷ ss) ms way ⊎ ⊥)
        ways way x (inl h) = inl h
        ways way x (inr (inl a)) = inr (inl (awaits_filled ss ms way a))
        ways way x (inr (inr n)) = absurd n

  -- ---- a configuration dropped

  module _ (lawful : IsLawful p) (s : Spot) (empty : s.rest ≡ []) (all : s.parts ≡ part_count) where
    none_left : (n : Move) → ¬ IsLeft p s n
    none_left n (inl h) = no_member n (subst (λ l. Contains l n) empty h)
    none_left n (inr h) =
        lawful.all s.config n h.0 (λ within. h.1 (subst (λ k. p.IsWithin s.config k n) (sym all) within))

    waits_dropped : (ss : List Spot) (c : Config) (n : Move) → Waits p (s ∷ ss) c n → Waits p ss c n
    waits_dropped ss c n (inl at) = absurd (none_left n at.1)
    waits_dropped ss c n (inr below) = below

    awaits_dropped : (ss : List Spot) (ms way : List Move)
        → Awaits p (s ∷ ss) ms way → Awaits p ss (but_first ms) way
    awaits_dropped ss ms way (inl at) = absurd (none_left at.0 at.3)
    awaits_dropped ss ms way (inr w) = w

    trail_dropped : (ss : List Spot) (ms : List Move) → IsTrail p (s ∷ ss) ms → IsTrail p ss (but_first ms)
    trail_dropped [] [] tr = refl
    trail_dropped [] (m ∷ ms) tr = absurd tr
    trail_dropped (u ∷ ss) [] tr = absurd tr
    trail_dropped (u ∷ ss) (m ∷ ms) tr = tr.1

    dropped : (met : List Config) (ss : List Spot) (ms : List Move)
        → IsUnderWay p met (s ∷ ss) ms → IsUnderWay p met ss (but_first ms)
    dropped met ss ms w = record {
      standing = record {
        trail = trail_dropped ss ms w.standing.trail;
        asked = w.standing.asked.1;
        apart = w.standing.apart.1;
        known = λ c h. w.standing.known c (inr h);
        depth = let d = w.standing.depth in omega (arith, d);
      };
      on = λ c n known allowed. on c n (w.on c n known allowed);
      ways = λ way x simple. ways way x (w.ways way x simple);
    }
      where
        on : (c : Config) (n : Move) → Contains met (step c n) ⊎ Waits p (s ∷ ss) c n
            → Contains met (step c n) ⊎ Waits p ss c n
        on c n (inl h) = inl h
        on c n (inr waits) = inr (waits_dropped ss c n waits)

        ways : (way : List Move) (x : Config)
            → Contains met x ⊎ (Awaits p (s ∷ ss) ms way ⊎ ⊥)
            → Contains met x ⊎ (Awaits p ss (but_first ms) way ⊎ ⊥)
        ways way x (inl h) = inl h
        ways way x (inr (inl a)) = inr (inl (awaits_dropped ss ms way a))
        ways way x (inr (inr n)) = absurd n

  -- ---- one of the two

  pub passed_on : (met : List Config) (ss new : List Spot) (ms taken : List Move)
      → IsLawful p → IsSpent ss → IsPassed p ss ms new taken → IsUnderWay p met ss ms → IsUnderWay p met new taken
  passed_on met [] new ms taken lawful spent h w = absurd h
  passed_on met (s ∷ ss) new ms taken lawful spent (inl h) w =
      subst (λ l. IsUnderWay p met l taken) (sym h.1)
      (subst (IsUnderWay p met ss) (sym h.2) (dropped lawful s spent h.0 met ss ms w))
  passed_on met (s ∷ ss) new ms taken lawful spent (inr h) w =
      subst (λ l. IsUnderWay p met l taken) (sym h.0.is)
      (subst (IsUnderWay p met (next_spot s h.0.moves ∷ ss)) (sym h.1)
      (filled lawful s h.0.moves spent h.0.more h.0.part met ss ms w))

-- ---- sizes

-- a move taken leaves as many parts
pub weight_taken : (ss new : List Spot) (m : Move) → IsAfterTop ss new (Some m) → weight new ≡ weight ss
weight_taken [] new m h = absurd h
weight_taken (s ∷ ss) new m h = ap weight h.2

-- and a configuration
pub some_taken : (ss new : List Spot) (m : Move) → IsAfterTop ss new (Some m) → 0 < length new
some_taken [] new m h = absurd h
some_taken (s ∷ ss) new m h = let e = ap length h.2 in omega (arith, e)

-- and a move less
pub rest_taken : (ss new : List Spot) (m : Move) → IsAfterTop ss new (Some m) → rest_length new < rest_length ss
rest_taken [] new m h = absurd h
rest_taken (s ∷ ss) new m h =
    let left = ap rest_length h.2 in
    let was = ap length h.1 in
    omega (arith, left, was)

-- where no configuration is left
pub some_spots : (ss : List Spot) → (ss ≡ [] → ⊥) → 0 < length ss
some_spots [] ne = absurd (ne refl)
some_spots (s ∷ ss) ne = omega arith
