-- Part 1 of the list without the move that the list begins with, which was tried before.
use Rattle.std.proofs.Common.{◌≡◌, ◌≢◌, ◌⊎◌, inl, inr, ℕ, ◌+◌, ◌<◌, ◌≤◌, Bool, true, false, nat_le, List, [], ◌∷◌, refl, sym, subst, ◌∙◌, arith}
use Rattle.std.specs.List.{Contains}
use Rattle.std.specs.declared.cmp.Ordering.TheVariants.{Less, Greater}
use Rattle.std.proofs.lemmas.Bool.Decides.{nat_tests}
use Rattle.std.proofs.lemmas.List.Elements.{All-contains, All-head, All-tail}
use Rattle.conf_doc.specs.declared.configuration.Config.{Config}
use Rattle.move_core.specs.Contexts.{rulebook}
use Rattle.move_core.specs.Listed.{EndsChain, IsRanked, moves_of}
use Rattle.move_core.specs.ListedOrder.{listed_cmp}
use Rattle.move_core.specs.declared.contexts.Ctx.{Ctx}
use Rattle.move_core.specs.declared.moves.Move.{Move}
use Rattle.move_core.specs.declared.moves.Ranked.{Ranked}
use Rattle.move_lists.specs.Offers.{IsLeading}
use Rattle.move_lists.specs.Parts.{AreListedIn, AreRankedIn, EndsEarlier, part_of}
use Rattle.move_lists.proofs.Members.{member_from_map}
use Rattle.move_lists.proofs.PartOrder.{part_first}
use Rattle.plan_search.specs.Kits.{move_problem, no_part}
use Rattle.plan_search.specs.Problems.{Problem, IsPart, PrecedesLater}
use Rattle.plan_search.specs.Stacks.{but_first}
use Rattle.plan_search.proofs.Members.{member_cases}
use Rattle.plan_search.proofs.Pairs.{pairs_first, pairs_tail}
use Rattle.plan_search.proofs.Parts.{by_rank, less_on}

-- ---- a part without its first move

module _ (p : Problem) (c : Config) (k : ℕ) where
  -- where that one is within the parts before, the others are that part too
  pub part_but_first : (ms : List Move) → IsPart p c k ms → ((m : Move) (rest : List Move) → ms ≡ m ∷ rest → p.IsWithin c k m)
      → IsPart p c k (but_first ms)
  part_but_first [] is within = is
  part_but_first (m ∷ rest) is within = record {
    each = All-tail (p.IsListed c) m rest is.each;
    all = λ n here out. by n out (member_cases m rest n (is.all n here out));
    order = pairs_tail (p.Precedes c) m rest is.order;
    later = All-tail (PrecedesLater p c (k + 1)) m rest is.later;
  }
    where
      by : (n : Move) → ¬ p.IsWithin c k n → (m ≡ n) ⊎ Contains rest n → Contains rest n
      by n out (inl same) = absurd (out (subst (p.IsWithin c k) same (within m rest refl)))
      by n out (inr h) = h

-- ---- the first of part 1

less_before : (r s : Ranked) → listed_cmp r s ≡ Less → listed_cmp r s ≢ Greater
less_before r s less greater = absurd (let e : Less ≡ Greater = sym less ∙ greater in cc)

module _ (ctx : Ctx) (start goal cur : Config) where
  abbrev Chain : Ranked → Type 0
  Chain = EndsChain (rulebook ctx) start cur goal

  -- each chain is of a part
  some_part : (s : Ranked) → Chain s → 1 ≤ part_of s
  some_part s is = by (nat_le (part_of s) 0) refl
    where
      by : (b : Bool) → nat_le (part_of s) 0 ≡ b → 1 ≤ part_of s
      by true e = absurd (no_part start goal is.first s.depth s.tier is.tier e)
      by false e = grind (arith, nat_tests)

  module _ (r : Ranked) (rs : List Ranked) (are : AreRankedIn (rulebook ctx) start cur goal 1 (r ∷ rs)) where
    abbrev IsHere : Ranked → Type 0
    IsHere s = IsRanked (rulebook ctx) start cur goal s × (part_of s ≡ 1)

    -- a ranked one of the part has no lesser chain
    least_of : (t s : Ranked) → Contains (r ∷ rs) t → t.mv ≡ s.mv → Chain s → listed_cmp t s ≢ Greater
    least_of t s there same is =
        by_rank t s (sym same) ((All-contains IsHere (r ∷ rs) t are.each there).0.least s (sym same) is)

    first_of : (s : Ranked) → Chain s → Contains (moves_of (r ∷ rs)) s.mv → listed_cmp r s ≢ Greater
    first_of s is there = by (member_from_map (λ x. x.mv) (r ∷ rs) s.mv there)
      where
        by : (t : Ranked) × Contains (r ∷ rs) t × (t.mv ≡ s.mv) → listed_cmp r s ≢ Greater
        by h = at (member_cases r rs h.0 h.1)
          where
            at : (r ≡ h.0) ⊎ Contains rs h.0 → listed_cmp r s ≢ Greater
            at (inl same) = subst (λ x. listed_cmp x s ≢ Greater) (sym same) (least_of h.0 s h.1 h.2 is)
            at (inr later) =
                less_before r s
                (less_on r h.0 s (pairs_first (λ x y. listed_cmp x y ≡ Less) r rs are.order h.0 later) (least_of h.0 s h.1 h.2 is))

    pub first_leads : IsLeading (rulebook ctx) start cur goal r.mv
    first_leads = record {
      chain = r;
      ends = (All-head IsHere r rs are.each).0.ends;
      part = (All-head IsHere r rs are.each).1;
      mv = refl;
      first = λ s is. by s is (split (part_of s) (some_part s is));
    }
      where
        split : (a : ℕ) → 1 ≤ a → (a ≡ 1) ⊎ (1 < a)
        split a low = grind arith

        of : (s : Ranked) → Chain s → Contains (moves_of (r ∷ rs)) s.mv ⊎ EndsEarlier (rulebook ctx) start cur goal 1 s.mv → listed_cmp r s ≢ Greater
        of s is (inl h) = first_of s is h
        of s is (inr e) = let low = some_part e.0 e.1 in let lt = e.3 in absurd (omega (arith, low, lt))

        by : (s : Ranked) → Chain s → (part_of s ≡ 1) ⊎ (1 < part_of s) → listed_cmp r s ≢ Greater
        by s is (inl one) = of s is (are.all s is one)
        by s is (inr later) =
            let here = (All-head IsHere r rs are.each).1 in
            less_before r s (part_first r s (omega (arith, here, later)))

  pub first_listed : (ms : List Move) → AreListedIn (rulebook ctx) start cur goal 1 ms → (m : Move) (rest : List Move) → ms ≡ m ∷ rest
      → IsLeading (rulebook ctx) start cur goal m
  first_listed ms are m rest is = by are.0 are.1 (sym is ∙ are.2)
    where
      by : (rs : List Ranked) → AreRankedIn (rulebook ctx) start cur goal 1 rs → m ∷ rest ≡ moves_of rs → IsLeading (rulebook ctx) start cur goal m
      by [] here e = absurd (cc)
      by (r ∷ rs) here e = subst (IsLeading (rulebook ctx) start cur goal) (sym (let f : m ≡ r.mv = cc in f)) (first_leads r rs here)

  -- part 1 without the move that was tried as a part of its own
  pub part_without_leading : (ms : List Move) → AreListedIn (rulebook ctx) start cur goal 1 ms → IsPart (move_problem ctx start goal) cur 1 ms
      → IsPart (move_problem ctx start goal) cur 1 (but_first ms)
  part_without_leading ms are is =
      part_but_first (move_problem ctx start goal) cur 1 ms is (λ m rest e. inl (refl, first_listed ms are m rest e))
