-- What is listed in a part as a part of the list.
use Rattle.std.proofs.Common.{◌≡◌, ◌≢◌, ℕ, ◌+◌, ◌-◌, ◌<◌, List, [], ◌∷◌, get_or, refl, sym, ap, subst, ◌∙◌, All, arith, nat_le, Bool, true, false, IsTrue, ◌⊎◌, inl, inr, Option, None, Some, MatchOption, Result, Ok, Err, IfOk}
use Rattle.std.specs.List.{AllPairs, Contains}
use Rattle.std.specs.Ordering.{ordering_reverse, ordering_then}
use Rattle.std.specs.declared.cmp.Ordering.{Ordering}
use Rattle.std.specs.declared.cmp.Ordering.TheVariants.{Less, Equal, Greater}
use Rattle.std.proofs.lemmas.List.Elements.{All-cons, All-contains, All-head, All-map, All-nil, All-tail, All-weaker, Contains-get_or}
use Rattle.std.proofs.lemmas.Bool.Decides.{nat_tests}
use Rattle.std.proofs.lemmas.List.Kept.{AllPairs-cons}
use Rattle.conf_doc.specs.declared.configuration.Config.{Config}
use Rattle.move_core.specs.Contexts.{rulebook}
use Rattle.move_core.specs.Listed.{AreListed, EndsChain, IsListed, IsRanked, LeadsTo, moves_of}
use Rattle.move_core.specs.ListedOrder.{listed_cmp, move_cmp, rank_cmp}
use Rattle.move_core.specs.ListedOrderLaws.{listed_same, listed_total}
use Rattle.move_core.specs.Rulebook.{Rulebook}
use Rattle.move_core.specs.declared.contexts.Ctx.{Ctx}
use Rattle.move_core.specs.declared.moves.Move.{Move}
use Rattle.move_core.specs.declared.moves.Ranked.{Ranked}
use Rattle.plan_search.specs.FirstWays.{StandsBefore}
use Rattle.move_lists.specs.Offers.{HasNoLeading, IsLeading}
use Rattle.move_lists.specs.Parts.{AreListedIn, EndsEarlier, part_of}
use Rattle.move_lists.proofs.PartOrder.{part_first}
use Rattle.plan_search.specs.Kits.{IsInParts, IsWithinParts, move_problem, move_tied}
use Rattle.plan_search.specs.Problems.{IsPart, PrecedesLater}
use Rattle.plan_search.proofs.Members.{first_member}
use Rattle.plan_search.proofs.Pairs.{pairs_first, pairs_none, pairs_one, pairs_tail}

-- of a result holds what follows from what holds of it
pub if_ok : {T E : Type 0} {P Q : T → Type 0} (r : Result T E) → ((x : T) → P x → Q x) → IfOk r P → IfOk r Q
if_ok (Ok x) f h = f x h
if_ok (Err e) f h = h

-- ---- the order of chains

-- what is before one chain is before all that aren't before that one
pub less_on : (r s t : Ranked) → listed_cmp r s ≡ Less → listed_cmp s t ≢ Greater → listed_cmp r t ≡ Less
less_on r s t a b = by (listed_cmp s t) refl
  where
    by : (o : Ordering) → listed_cmp s t ≡ o → listed_cmp r t ≡ Less
    by Less e = listed_total.trans r s t a e
    by Equal e = subst (λ x. listed_cmp r x ≡ Less) (listed_same s t e) a
    by Greater e = absurd (b e)

-- of chains that end with one move that of lesser rank comes first
pub by_rank : (s t : Ranked) → t.mv ≡ s.mv → rank_cmp s t ≢ Greater → listed_cmp s t ≢ Greater
by_rank s t same least g = by (rank_cmp s t) refl
  where
    by : (o : Ordering) → rank_cmp s t ≡ o → ⊥
    by Less e =
        let d : Less ≡ Greater = sym (ap (λ o. ordering_then o (move_cmp s.mv t.mv)) e) ∙ g in absurd cc
    by Equal e =
        let d : Equal ≡ Greater =
        sym (move_tied s.mv) ∙ ap (move_cmp s.mv) (sym same)
        ∙ sym (ap (λ o. ordering_then o (move_cmp s.mv t.mv)) e) ∙ g in
        absurd cc
    by Greater e = least e

module _ (book : Rulebook) (start goal cur : Config) where
  -- a chain that is before the least of a move is before all of that move
  stands : (r s : Ranked) → IsRanked book start cur goal r → IsRanked book start cur goal s
      → listed_cmp r s ≡ Less → StandsBefore book start goal cur r.mv s.mv
  stands r s is other less = record {
    chain = r;
    ends = is.ends;
    mv = refl;
    before = λ t ends same. less_on r s t less (by_rank s t same (other.least t same ends));
  }

  -- in the list each move stands before the later ones
  in_order : (rs : List Ranked) → All (IsRanked book start cur goal) rs
      → AllPairs (λ r s. listed_cmp r s ≡ Less) rs
      → AllPairs (StandsBefore book start goal cur) (moves_of rs)
  in_order [] each pairs = pairs_none (StandsBefore book start goal cur)
  in_order (r ∷ rs) each pairs =
      AllPairs-cons (StandsBefore book start goal cur) r.mv (moves_of rs)
      (All-map (StandsBefore book start goal cur r.mv) (λ s. s.mv) rs
      (λ k d lt. stands r (get_or rs k d) (All-head (IsRanked book start cur goal) r rs each)
      (All-contains (IsRanked book start cur goal) rs (get_or rs k d)
      (All-tail (IsRanked book start cur goal) r rs each) (Contains-get_or rs k d lt))
      (pairs_first (λ x y. listed_cmp x y ≡ Less) r rs pairs (get_or rs k d) (Contains-get_or rs k d lt))))
      (in_order rs (All-tail (IsRanked book start cur goal) r rs each)
      (pairs_tail (λ x y. listed_cmp x y ≡ Less) r rs pairs))

  pub listed_order : (ms : List Move) → AreListed book start cur goal ms
      → AllPairs (StandsBefore book start goal cur) ms
  listed_order ms are =
      subst (AllPairs (StandsBefore book start goal cur)) (sym are.2) (in_order are.0 are.1.each are.1.order)

-- ---- parts

-- a part that is no lesser one but not above the next is the next
next_part : (t k : ℕ) → nat_le t (k + 1) ≡ true → nat_le t k ≡ false → t ≡ k + 1
next_part t k a b = grind (arith, nat_tests)

lesser_part : (t k : ℕ) → t < k + 1 → nat_le t k ≡ true
lesser_part t k lt = grind (arith, nat_tests)

above_part : (t k : ℕ) → ¬ IsTrue (nat_le t k) → k < t
above_part t k out = grind (arith, nat_tests)

between : (t u k : ℕ) → t ≡ k → k < u → t < u
between t u k here above = omega arith

module _ (ctx : Ctx) (start goal cur : Config) (k : ℕ) (ms : List Move)
    (are : AreListedIn (rulebook ctx) start cur goal (k + 1) ms) where
  abbrev IsHere : Ranked → Type 0
  IsHere r = IsRanked (rulebook ctx) start cur goal r × (part_of r ≡ k + 1)

  within_again : (m : Move) → IsInParts (rulebook ctx) start goal cur (k + 1) m
      → ¬ IsInParts (rulebook ctx) start goal cur k m → Contains ms m
  within_again m s out = by (nat_le (part_of s.0) k) refl
    where
      of : Contains (moves_of are.0) s.0.mv ⊎ EndsEarlier (rulebook ctx) start cur goal (k + 1) s.0.mv → Contains ms m
      of (inl h) = subst (λ l. Contains l m) (sym are.2) (subst (Contains (moves_of are.0)) s.2 h)
      of (inr e) = absurd (out (e.0, e.1, e.2 ∙ s.2, lesser_part (part_of e.0) k e.3))

      by : (b : Bool) → nat_le (part_of s.0) k ≡ b → Contains ms m
      by true e = absurd (out (s.0, s.1, s.2, e))
      by false e = of (are.1.all s.0 s.1 (next_part (part_of s.0) k s.3 e))

  -- it stands before each listed move that no chain of so many parts of the list ends with
  abbrev IsBeforeLater : Move → Type 0
  IsBeforeLater m =
      (n : Move) → IsListed (rulebook ctx) cur goal n → ¬ IsInParts (rulebook ctx) start goal cur (k + 1) n
      → StandsBefore (rulebook ctx) start goal cur m n

  before_later : (r : Ranked) → IsHere r → IsBeforeLater r.mv
  before_later r is n listed out = record {
    chain = r;
    ends = is.0.ends;
    mv = refl;
    before = λ s ends same.
        part_first r s
        (between (part_of r) (part_of s) (k + 1) is.1 (above_part (part_of s) (k + 1) (λ le. out (s, ends, same, le))));
  }

  -- what is in so many parts of the list is within one part more
  one_less : (j : ℕ) (m : Move) → IsInParts (rulebook ctx) start goal cur j m
      → IsWithinParts (rulebook ctx) start goal cur (j + 1) m
  one_less j m is =
      let e : j ≡ j + 1 - 1 = omega arith in
      inr (subst (λ i. IsInParts (rulebook ctx) start goal cur i m) e is)

  -- and the other way round, after the first part
  one_more : (m : Move) → IsWithinParts (rulebook ctx) start goal cur (k + 1 + 1) m
      → IsInParts (rulebook ctx) start goal cur (k + 1) m
  one_more m (inl h) = let e = h.0 in absurd (omega (arith, e))
  one_more m (inr h) =
      let e : k + 1 + 1 - 1 ≡ k + 1 = omega arith in
      subst (λ i. IsInParts (rulebook ctx) start goal cur i m) e h

  later_on : (m : Move) → IsBeforeLater m → PrecedesLater (move_problem ctx start goal) cur (k + 1 + 1) m
  later_on m is n listed out = is n listed (λ h. out (one_less (k + 1) n h))

  -- what is listed in a part is the part of the list after that one
  listed_next : IsPart (move_problem ctx start goal) cur (k + 1) ms
  listed_next = record {
    each =
        subst (All (λ m. IsListed (rulebook ctx) cur goal m)) (sym are.2)
        (All-map (λ m. IsListed (rulebook ctx) cur goal m) (λ r. r.mv) are.0
        (All-weaker IsHere (λ r. IsListed (rulebook ctx) cur goal r.mv)
        (λ r is. record { first = is.0.ends.first; depth = r.depth; generated = is.0.ends.generated; leads = is.0.ends.leads })
        are.0 are.1.each));
    all = λ m h out. within_again m (one_more m h) (λ less. out (one_less k m less));
    order =
        subst (AllPairs (StandsBefore (rulebook ctx) start goal cur)) (sym are.2)
        (in_order (rulebook ctx) start goal cur are.0
        (All-weaker IsHere (IsRanked (rulebook ctx) start cur goal) (λ r is. is.0) are.0 are.1.each) are.1.order);
    later =
        subst (All (PrecedesLater (move_problem ctx start goal) cur (k + 1 + 1))) (sym are.2)
        (All-map (PrecedesLater (move_problem ctx start goal) cur (k + 1 + 1)) (λ r. r.mv) are.0
        (All-weaker IsHere (λ r. PrecedesLater (move_problem ctx start goal) cur (k + 1 + 1) r.mv)
        (λ r is. later_on r.mv (before_later r is)) are.0 are.1.each));
  }

-- what is listed in a part is that part after the first one
pub listed_part : (ctx : Ctx) (start goal cur : Config) (part : ℕ) (ms : List Move) → 0 < part
    → AreListedIn (rulebook ctx) start cur goal part ms → IsPart (move_problem ctx start goal) cur part ms
listed_part ctx start goal cur part ms some are =
    let e : part ≡ part - 1 + 1 = omega (arith, some) in
    subst (λ k. IsPart (move_problem ctx start goal) cur k ms) (sym e)
    (listed_next ctx start goal cur (part - 1) ms (subst (λ k. AreListedIn (rulebook ctx) start cur goal k ms) e are))

-- ---- the first part

module _ (ctx : Ctx) (start goal cur : Config) where
  -- with no move to begin with it is empty
  pub no_leading_part : HasNoLeading (rulebook ctx) start cur goal → IsPart (move_problem ctx start goal) cur 0 []
  no_leading_part none = record {
    each = All-nil (λ m. IsListed (rulebook ctx) cur goal m);
    all = λ m within out. absurd (all m within out);
    order = pairs_none (StandsBefore (rulebook ctx) start goal cur);
    later = All-nil (PrecedesLater (move_problem ctx start goal) cur 1);
  }
    where
      all : (m : Move) → IsWithinParts (rulebook ctx) start goal cur 1 m
          → ¬ IsWithinParts (rulebook ctx) start goal cur 0 m → ⊥
      all m (inl h) out = none h.1.chain h.1.ends h.1.part
      all m (inr h) out = out (inr h)

  -- of chains of which none comes before the other both are one
  one_chain : (r s : Ranked) → listed_cmp r s ≢ Greater → listed_cmp s r ≢ Greater → r ≡ s
  one_chain r s a b = by (listed_cmp r s) refl
    where
      by : (o : Ordering) → listed_cmp r s ≡ o → r ≡ s
      by Less e = absurd (b (listed_total.antisymm s r ∙ ap ordering_reverse e))
      by Equal e = listed_same r s e
      by Greater e = absurd (a e)

  module _ (m : Move) (is : IsLeading (rulebook ctx) start cur goal m) where
    one_leading : (n : Move) → IsLeading (rulebook ctx) start cur goal n → m ≡ n
    one_leading n other =
        let e = one_chain is.chain other.chain (is.first other.chain other.ends) (other.first is.chain is.ends) in
        sym is.mv ∙ ap (λ r. r.mv) e ∙ other.mv

    leads_all : (n : Move) → IsWithinParts (rulebook ctx) start goal cur 1 n
        → ¬ IsWithinParts (rulebook ctx) start goal cur 0 n → Contains (m ∷ []) n
    leads_all n (inl h) out = subst (Contains (m ∷ [])) (one_leading n h.1) (first_member m [])
    leads_all n (inr h) out = absurd (out (inr h))

    -- a chain that ends with a later move comes after
    leads_later : PrecedesLater (move_problem ctx start goal) cur 1 m
    leads_later n listed out = record {
      chain = is.chain;
      ends = is.ends;
      mv = is.mv;
      before = λ s ends same. by s ends same (listed_cmp is.chain s) refl;
    }
      where
        by : (s : Ranked) → EndsChain (rulebook ctx) start cur goal s → s.mv ≡ n
            → (o : Ordering) → listed_cmp is.chain s ≡ o → listed_cmp is.chain s ≡ Less
        by s ends same Less e = e
        by s ends same Equal e =
            absurd (out (inl (
              refl,
              record {
                chain = is.chain;
                ends = is.ends;
                part = is.part;
                mv = ap (λ r. r.mv) (listed_same is.chain s e) ∙ same;
                first = is.first;
              },
            )))
        by s ends same Greater e = absurd (is.first s ends e)

    -- the move that the list begins with is the first part
    pub leading_part : IsPart (move_problem ctx start goal) cur 0 (m ∷ [])
    leading_part = record {
      each = All-cons (λ n. IsListed (rulebook ctx) cur goal n) m [] listed (All-nil (λ n. IsListed (rulebook ctx) cur goal n));
      all = leads_all;
      order = pairs_one (StandsBefore (rulebook ctx) start goal cur) m;
      later =
          All-cons (PrecedesLater (move_problem ctx start goal) cur 1) m [] leads_later
          (All-nil (PrecedesLater (move_problem ctx start goal) cur 1));
    }
      where
        listed : IsListed (rulebook ctx) cur goal m
        listed = record {
          first = is.ends.first;
          depth = is.chain.depth;
          generated = is.ends.generated;
          leads = subst (LeadsTo (rulebook ctx) cur goal is.ends.first.mv is.chain.depth) is.mv is.ends.leads;
        }

-- the move that the list begins with, alone, or nothing is the first part
pub first_part : (ctx : Ctx) (start goal cur : Config) (found : Option Move) (ms : List Move)
    → MatchOption found (HasNoLeading (rulebook ctx) start cur goal) (IsLeading (rulebook ctx) start cur goal)
    → MatchOption found (ms ≡ []) (λ m. ms ≡ m ∷ []) → IsPart (move_problem ctx start goal) cur 0 ms
first_part ctx start goal cur None ms none is =
    subst (IsPart (move_problem ctx start goal) cur 0) (sym is) (no_leading_part ctx start goal cur none)
first_part ctx start goal cur (Some m) ms leads is =
    subst (IsPart (move_problem ctx start goal) cur 0) (sym is) (leading_part ctx start goal cur m leads)
