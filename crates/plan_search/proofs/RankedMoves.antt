-- Which moves are listed can be told, with their ranks; so each configuration has its list.
use Rattle.std.proofs.Common.{◌≡◌, ◌≢◌, ◌⊎◌, inl, inr, ℕ, zero, suc, ◌<◌, ◌≤◌, List, [], ◌∷◌, refl, sym, ap, subst, ◌∙◌, arith}
use Rattle.std.specs.Cmp.{tied_itself, upto}
use Rattle.std.specs.List.{Contains}
use Rattle.std.specs.Ordering.{is_gt, nat_cmp, ordering_reverse, ordering_then}
use Rattle.std.specs.declared.cmp.Ordering.{Ordering}
use Rattle.std.specs.declared.cmp.Ordering.TheVariants.{Less, Equal, Greater}
use Rattle.std.proofs.lemmas.Cmp.{ranked}
use Rattle.std.proofs.lemmas.List.Elements.{Contains-get_or}
use Rattle.conf_doc.specs.declared.configuration.Config.{Config}
use Rattle.yang_pattern.proofs.Decisions.{Told, both, either, like, same_number}
use Rattle.move_core.specs.Contexts.{rulebook}
use Rattle.move_core.specs.Extensions.{IsDelete, IsExtension, IsReferrer, IsRequired, IsUpper, as_in_goal, upper_place}
use Rattle.move_core.specs.Generated.{IsRestoring}
use Rattle.move_core.specs.Listed.{AreListed, EndsChain, Extends, HasTier, IsGeneratedMove, IsListed, IsRanked, LeadsTo, chain_class, moves_of, other_tier, restoring_tier}
use Rattle.move_core.specs.ListedOrder.{listed_cmp, rank_cmp}
use Rattle.move_core.specs.ListedOrderLaws.{listed_same, listed_total}
use Rattle.move_core.specs.declared.contexts.Ctx.{Ctx}
use Rattle.move_core.specs.declared.moves.Generated.{Generated}
use Rattle.move_core.specs.declared.moves.Move.{Move}
use Rattle.move_core.specs.declared.moves.Move.TheVariants.{Add, Remove, Replace, AddItem, RemoveItem}
use Rattle.move_core.specs.declared.moves.Ranked.{Ranked}
use Rattle.move_lists.specs.Finite.{IsFinite}
use Rattle.move_lists.proofs.Chains.{restoring_or_not, same_tier, some_chain, some_tier}
use Rattle.move_lists.proofs.FiniteSets.{finite_each, finite_image, finite_within}
use Rattle.move_lists.proofs.FirstChains.{gt_false, not_gt, rank_total}
use Rattle.move_lists.proofs.Members.{member_cases, member_map, no_member}
use Rattle.move_lists.proofs.MoveForms.{listed_finite}
use Rattle.move_lists.proofs.OrderedInsertion.{IsPutIn, Rise, all_rise, put_in}
use Rattle.plan_search.specs.Kits.{moves_told}
use Rattle.plan_search.proofs.GeneratedMoves.{finite_generated, generated_told}
use Rattle.plan_search.proofs.PlaceWants.{referrer_told}
use Rattle.plan_search.proofs.RequiredMoves.{required_told}
use Rattle.plan_search.proofs.Rounds.{IsBound, rounds_end}
use Rattle.plan_search.proofs.Telling.{and_told, finite_below, finite_told}

-- ---- extensions

delete_told : (m x : Move) → Told (IsDelete m x)
delete_told (Replace p v) x = moves_told x (Remove p)
delete_told (Add p v) x = inr (λ h. h)
delete_told (Remove p) x = inr (λ h. h)
delete_told (AddItem p i s) x = inr (λ h. h)
delete_told (RemoveItem p i) x = inr (λ h. h)

module _ (ctx : Ctx) (cur goal : Config) (m x : Move) where
  -- one of the four gives it
  abbrev IsFromSome : Type 0
  IsFromSome =
      IsUpper goal m x ⊎ (IsDelete m x ⊎ (IsReferrer (rulebook ctx) cur m x ⊎ IsRequired (rulebook ctx) cur m x))

  to_kind : IsFromSome → Extends (rulebook ctx) cur goal m x
  to_kind (inl h) = (1, inl (refl, h))
  to_kind (inr (inl h)) = (2, inr (inl (refl, h)))
  to_kind (inr (inr (inl h))) = (3, inr (inr (inl (refl, h))))
  to_kind (inr (inr (inr h))) = (4, inr (inr (inr (refl, h))))

  of_kind : (kind : ℕ) → IsExtension (rulebook ctx) cur goal kind m x → IsFromSome
  of_kind kind (inl h) = inl h.1
  of_kind kind (inr (inl h)) = inr (inl h.1)
  of_kind kind (inr (inr (inl h))) = inr (inr (inl h.1))
  of_kind kind (inr (inr (inr h))) = inr (inr (inr h.1))

  upper_told : Told (IsUpper goal m x)
  upper_told = and_told (λ p. x ≡ as_in_goal goal p) (λ p. moves_told x (as_in_goal goal p)) (upper_place m)

  extends_told : Told (Extends (rulebook ctx) cur goal m x)
  extends_told =
      like to_kind (λ h. of_kind h.0 h.1)
      (either upper_told (either (delete_told m x) (either (referrer_told ctx cur m x) (required_told ctx cur m x))))

-- ---- tiers

restoring_grows : (a b : ℕ) → a ≤ b → restoring_tier a ≤ restoring_tier b
restoring_grows zero zero le = let h : 3 ≤ 3 = omega arith in h
restoring_grows zero (suc b) le = let h : 3 ≤ 4 = omega arith in h
restoring_grows (suc a) zero le = absurd (omega (arith, le))
restoring_grows (suc a) (suc b) le = let h : 4 ≤ 4 = omega arith in h

-- an extended chain is of no lesser tier than the move alone, and the tier doesn't depend on how long it is
other_grows : (m : Move) (a b : ℕ) → a ≤ b → other_tier m a ≤ other_tier m b
other_grows m zero zero le = let h : 1 ≤ 1 = omega arith in h
other_grows m (suc a) zero le = absurd (omega (arith, le))
other_grows (Add p v) zero (suc b) le = let h : 1 ≤ 4 = omega arith in h
other_grows (Remove p) zero (suc b) le = let h : 1 ≤ 2 = omega arith in h
other_grows (Replace p v) zero (suc b) le = let h : 1 ≤ 2 = omega arith in h
other_grows (AddItem p i s) zero (suc b) le = let h : 1 ≤ 4 = omega arith in h
other_grows (RemoveItem p i) zero (suc b) le = let h : 1 ≤ 2 = omega arith in h
other_grows (Add p v) (suc a) (suc b) le = let h : 4 ≤ 4 = omega arith in h
other_grows (Remove p) (suc a) (suc b) le = let h : 2 ≤ 2 = omega arith in h
other_grows (Replace p v) (suc a) (suc b) le = let h : 2 ≤ 2 = omega arith in h
other_grows (AddItem p i s) (suc a) (suc b) le = let h : 4 ≤ 4 = omega arith in h
other_grows (RemoveItem p i) (suc a) (suc b) le = let h : 2 ≤ 2 = omega arith in h

module _ (start goal : Config) (g : Generated) where
  -- more extensions are of no lesser tier
  tier_grows : (a b s t : ℕ) → a ≤ b → HasTier start goal g a s → HasTier start goal g b t → s ≤ t
  tier_grows a b s t le x y = by (restoring_or_not start goal g)
    where
      by : IsRestoring start goal g ⊎ ¬ IsRestoring start goal g → s ≤ t
      by (inl is) =
          let p = x.restoring is in
          let q = y.restoring is in
          let r = restoring_grows a b le in omega (arith, p, q, r)
      by (inr not) =
          let p = x.other not in
          let q = y.other not in
          let r = other_grows g.mv a b le in omega (arith, p, q, r)

  tier_told : (n t : ℕ) → Told (HasTier start goal g n t)
  tier_told n t =
      let s = some_tier start goal g n in
      like (λ e. subst (HasTier start goal g n) e s.1) (λ has. same_tier start goal g n s.0 t s.1 has)
      (same_number s.0 t)

-- ---- the least rank

-- no greater number first, and where they are the same the rest decides
not_greater : (a b : ℕ) (rest : Ordering) → a ≤ b → (a ≡ b → rest ≢ Greater)
    → ordering_then (nat_cmp a b) rest ≢ Greater
not_greater a b rest le same greater = by (nat_cmp a b) refl
  where
    by : (o : Ordering) → o ≡ nat_cmp a b → ⊥
    by Less e = let h = ap (λ x. ordering_then x rest) e ∙ greater in absurd (cc)
    by Equal e = same (ranked a b Equal e) (ap (λ x. ordering_then x rest) e ∙ greater)
    by Greater e = let less = ranked a b Greater e in absurd (omega (arith, le, less))

no_greater : (a b : ℕ) → a ≤ b → nat_cmp a b ≢ Greater
no_greater a b le greater = let less = ranked a b Greater (sym greater) in absurd (omega (arith, le, less))

rank_chain : (r s t : Ranked) → rank_cmp r s ≢ Greater → rank_cmp s t ≢ Greater → rank_cmp r t ≢ Greater
rank_chain r s t a b = not_gt _ (upto rank_total r s t (gt_false _ a) (gt_false _ b))

rank_itself : (r : Ranked) → rank_cmp r r ≢ Greater
rank_itself r = not_gt _ (ap is_gt (tied_itself rank_total r))

-- the lesser of two
either_rank : (r s : Ranked) → (rank_cmp r s ≢ Greater) ⊎ (rank_cmp s r ≢ Greater)
either_rank r s = by (rank_cmp r s) refl
  where
    by : (o : Ordering) → rank_cmp r s ≡ o → (rank_cmp r s ≢ Greater) ⊎ (rank_cmp s r ≢ Greater)
    by Less e = inl (λ g. let h = sym e ∙ g in absurd (cc))
    by Equal e = inl (λ g. let h = sym e ∙ g in absurd (cc))
    by Greater e = inr (λ g. let h = sym (rank_total.antisymm s r ∙ ap ordering_reverse e) ∙ g in absurd (cc))

module _ (P : Ranked → Type 0) (told : (r : Ranked) → Told (P r)) where
  -- it is so, and no member that is so comes before it
  abbrev IsLeastOf : List Ranked → Ranked → Type 0
  IsLeastOf rs r = P r × ((s : Ranked) → Contains rs s → P s → rank_cmp r s ≢ Greater)

  -- some member is the least that is so, or none is so
  least : (rs : List Ranked) → ((r : Ranked) × IsLeastOf rs r) ⊎ ((r : Ranked) → Contains rs r → ¬ P r)
  least [] = inr (λ r h. absurd (no_member r h))
  least (x ∷ xs) = by (told x) (least xs)
    where
      with_first : (r : Ranked) → IsLeastOf xs r → (P x → rank_cmp r x ≢ Greater) → IsLeastOf (x ∷ xs) r
      with_first r (is, low) first = (is, λ s h p. at s p (member_cases x xs s h))
        where
          at : (s : Ranked) → P s → (x ≡ s) ⊎ Contains xs s → rank_cmp r s ≢ Greater
          at s p (inl e) = subst (λ t. rank_cmp r t ≢ Greater) e (first (subst P (sym e) p))
          at s p (inr k) = low s k p

      by : Told (P x) → ((r : Ranked) × IsLeastOf xs r) ⊎ ((r : Ranked) → Contains xs r → ¬ P r)
          → ((r : Ranked) × IsLeastOf (x ∷ xs) r) ⊎ ((r : Ranked) → Contains (x ∷ xs) r → ¬ P r)
      by (inr n) (inr none) = inr (λ r h. at r (member_cases x xs r h))
        where
          at : (r : Ranked) → (x ≡ r) ⊎ Contains xs r → ¬ P r
          at r (inl e) p = n (subst P (sym e) p)
          at r (inr k) p = none r k p
      by (inr n) (inl (r, is)) = inl (r, with_first r is (λ p. absurd (n p)))
      by (inl p) (inr none) = inl (x, with_first x (p, λ s k q. absurd (none s k q)) (λ _. rank_itself x))
      by (inl p) (inl (r, is)) = of (either_rank x r)
        where
          of : (rank_cmp x r ≢ Greater) ⊎ (rank_cmp r x ≢ Greater)
              → ((r : Ranked) × IsLeastOf (x ∷ xs) r) ⊎ ((r : Ranked) → Contains (x ∷ xs) r → ¬ P r)
          of (inr le) = inl (r, with_first r is (λ _. le))
          of (inl le) = inl (x, with_first x (p, λ s k q. rank_chain x r s le (is.1 s k q)) (λ _. rank_itself x))

-- ---- chains

module _ (ctx : Ctx) (cur goal : Config) where
  abbrev Generates : Generated → Type 0
  Generates g = IsGeneratedMove (rulebook ctx) cur goal g

  abbrev Leads : Move → ℕ → Move → Type 0
  Leads m n x = LeadsTo (rulebook ctx) cur goal m n x

  module _ (g : Generated) (is : Generates g) where
    -- what it leads to is listed
    leads_listed : (n : ℕ) (x : Move) → Leads g.mv n x → IsListed (rulebook ctx) cur goal x
    leads_listed n x leads = record { first = g; depth = n; generated = is; leads = leads }

    leads_told : (n : ℕ) (x : Move) → Told (Leads g.mv n x)
    leads_told zero x = moves_told x g.mv
    leads_told (suc n) x =
        like (λ h. (h.0, h.1.0, h.1.1)) (λ h. (h.0, (h.1, h.2)))
        (finite_told (λ y. Leads g.mv n y × Extends (rulebook ctx) cur goal y x)
        (λ y. both (leads_told n y) (extends_told ctx cur goal y x))
        (finite_within (λ y. Leads g.mv n y × Extends (rulebook ctx) cur goal y x) (IsListed (rulebook ctx) cur goal)
        (λ y h. leads_listed n y h.0) (listed_finite ctx cur goal)))

    led_bound : (n : ℕ) × IsBound (Leads g.mv) n
    led_bound =
        rounds_end (Leads g.mv) (Extends (rulebook ctx) cur goal) leads_told (λ n x y leads to. (y, leads, to))
        (λ n x h. h)
        (listed_finite ctx cur goal).0 (λ n x leads. (listed_finite ctx cur goal).1 x (leads_listed n x leads))

  -- so many extensions are enough after a generated move
  bound_of : (g : Generated) → (n : ℕ) × (Generates g → IsBound (Leads g.mv) n)
  bound_of g = by (generated_told cur goal ctx g)
    where
      by : Told (Generates g) → (n : ℕ) × (Generates g → IsBound (Leads g.mv) n)
      by (inl is) = let b = led_bound g is in (b.0, λ _. b.1)
      by (inr n) = (0, λ is. absurd (n is))

  module _ (start : Config) where
    abbrev Ends : Ranked → Type 0
    Ends r = EndsChain (rulebook ctx) start cur goal r

    abbrev EndsFrom : Ranked → Generated → Type 0
    EndsFrom r g =
        Generates g
        × (Leads g.mv r.depth r.mv
        × (HasTier start goal g r.depth r.tier × (r.class ≡ chain_class g r.depth r.mv)))

    ends_told : (r : Ranked) → Told (Ends r)
    ends_told r =
        like (λ h. record { first = h.0; generated = h.1.0; leads = h.1.1.0; tier = h.1.1.1.0; class = h.1.1.1.1 })
        (λ is. (is.first, (is.generated, (is.leads, (is.tier, is.class)))))
        (finite_told (EndsFrom r) (λ g. by g (generated_told cur goal ctx g))
        (finite_within (EndsFrom r) Generates (λ g h. h.0) (finite_generated cur goal ctx)))
      where
        by : (g : Generated) → Told (Generates g) → Told (EndsFrom r g)
        by g (inr n) = inr (λ h. n h.0)
        by g (inl is) =
            like (λ h. (is, h)) (λ h. h.1)
            (both (leads_told g is r.depth r.mv)
            (both (tier_told start goal g r.depth r.tier) (same_number r.class (chain_class g r.depth r.mv))))

    -- ---- the rank of a move

    module _ (m : Move) where
      -- a chain from the generated move to this one, with its triple
      abbrev chain : Generated → ℕ → Ranked
      chain g d = record { tier = (some_tier start goal g d).0; depth = d; class = chain_class g d m; mv = m }

      -- it has no more extensions than are enough
      abbrev IsShort : Ranked → Type 0
      IsShort r =
          (g : Generated) × Generates g × ((d : ℕ) × (d < suc (bound_of g).0) × (r ≡ chain g d))

      finite_short : IsFinite IsShort
      finite_short =
          finite_each Generates (λ g r. (d : ℕ) × (d < suc (bound_of g).0) × (r ≡ chain g d))
          (finite_generated cur goal ctx)
          (λ g. finite_image (λ d. d < suc (bound_of g).0) (chain g) (finite_below (suc (bound_of g).0)))

      abbrev EndsHere : Ranked → Type 0
      EndsHere r = Ends r × (r.mv ≡ m)

      here_told : (r : Ranked) → Told (EndsHere r)
      here_told r = both (ends_told r) (moves_told r.mv m)

      -- some short chain comes before no shorter one
      shortened : (s : Ranked) → EndsHere s
          → (r : Ranked) × Contains finite_short.0 r × (EndsHere r × (rank_cmp r s ≢ Greater))
      shortened s (ends, at) = by ((bound_of ends.first).1 ends.generated s.depth s.mv ends.leads)
        where
          by : (k : ℕ) × (k ≤ (bound_of ends.first).0) × (k ≤ s.depth) × Leads ends.first.mv k s.mv
              → (r : Ranked) × Contains finite_short.0 r × (EndsHere r × (rank_cmp r s ≢ Greater))
          by (k, few, le, leads) = (
            chain ends.first k,
            finite_short.1 (chain ends.first k) (ends.first, ends.generated, (k, omega (arith, few), refl)),
            (
              (
                record {
                  first = ends.first;
                  generated = ends.generated;
                  leads = subst (Leads ends.first.mv k) at leads;
                  tier = (some_tier start goal ends.first k).1;
                  class = refl;
                },
                refl,
              ),
              not_greater (some_tier start goal ends.first k).0 s.tier _
                  (tier_grows start goal ends.first k s.depth (some_tier start goal ends.first k).0 s.tier le
                  (some_tier start goal ends.first k).1 ends.tier)
                  (λ _. not_greater k s.depth _ le
                  (λ same. no_greater (chain_class ends.first k m) s.class (class same))),
            ),
          )
            where
              class : k ≡ s.depth → chain_class ends.first k m ≤ s.class
              class same =
                  let is : chain_class ends.first k m ≡ s.class =
                  ap (λ d. chain_class ends.first d m) same ∙ ap (chain_class ends.first s.depth) (sym at)
                  ∙ sym ends.class in
                  omega (arith, is)

      -- it has a rank, or isn't listed
      abbrev HasRank : Type 0
      HasRank = (r : Ranked) × IsRanked (rulebook ctx) start cur goal r × (r.mv ≡ m)

      rank_told : HasRank ⊎ ¬ IsListed (rulebook ctx) cur goal m
      rank_told = by (least EndsHere here_told finite_short.0)
        where
          by : ((r : Ranked) × IsLeastOf EndsHere here_told finite_short.0 r)
              ⊎ ((r : Ranked) → Contains finite_short.0 r → ¬ EndsHere r)
              → HasRank ⊎ ¬ IsListed (rulebook ctx) cur goal m
          by (inl (r, (is, low))) =
              inl (r, record { ends = is.0; least = λ s same ends. at_most s (ends, same ∙ is.1) }, is.1)
            where
              at_most : (s : Ranked) → EndsHere s → rank_cmp r s ≢ Greater
              at_most s here =
                  let short = shortened s here in rank_chain r short.0 s (low short.0 short.1 short.2.0) short.2.1
          by (inr none) = inr (λ is.
              let s = some_chain ctx start cur goal m is in
              let short = shortened s.0 (s.1, s.2) in
              none short.0 short.1 short.2.0)

    -- ---- the list

    abbrev Ranks : Ranked → Type 0
    Ranks r = IsRanked (rulebook ctx) start cur goal r

    abbrev Lists : Move → Type 0
    Lists m = IsListed (rulebook ctx) cur goal m

    -- those of some moves that are listed, with their ranks, in order
    record AreOf (ms : List Move) (rs : List Ranked) : Type 0 where
      rise : Rise listed_cmp listed_total listed_same rs
      each : (r : Ranked) → Contains rs r → Ranks r
      all : (m : Move) → Contains ms m → Lists m → (r : Ranked) × Contains rs r × (r.mv ≡ m)

    module _ (m : Move) (ms : List Move) (rs : List Ranked) (are : AreOf ms rs) where
      -- one that isn't listed changes nothing
      one_less : ¬ Lists m → AreOf (m ∷ ms) rs
      one_less not = record { rise = are.rise; each = are.each; all = λ n h is. by n is (member_cases m ms n h) }
        where
          by : (n : Move) → Lists n → (m ≡ n) ⊎ Contains ms n → (r : Ranked) × Contains rs r × (r.mv ≡ n)
          by n is (inl e) = absurd (not (subst Lists (sym e) is))
          by n is (inr h) = are.all n h is

      -- one that is listed is put in
      one_more : (r : Ranked) → Ranks r → r.mv ≡ m → (new : List Ranked) × AreOf (m ∷ ms) new
      one_more r is at = (
        new.0,
        record {
          rise = put.rise;
          each = λ s h. ranks s (put.only s h);
          all = λ n h listed. by n (member_cases m ms n h) listed;
        },
      )
        where
          new : (new : List Ranked) × IsPutIn listed_cmp listed_total listed_same r rs new
          new = put_in listed_cmp listed_total listed_same r rs are.rise

          put : IsPutIn listed_cmp listed_total listed_same r rs new.0
          put = new.1

          ranks : (s : Ranked) → (s ≡ r) ⊎ Contains rs s → Ranks s
          ranks s (inl e) = subst Ranks (sym e) is
          ranks s (inr h) = are.each s h

          by : (n : Move) → (m ≡ n) ⊎ Contains ms n → Lists n → (s : Ranked) × Contains new.0 s × (s.mv ≡ n)
          by n (inl e) listed = (r, put.here, at ∙ e)
          by n (inr h) listed = let s = are.all n h listed in (s.0, put.kept s.0 s.1, s.2)

    ranked_of : (ms : List Move) → (rs : List Ranked) × AreOf ms rs
    ranked_of [] = (
      [],
      record {
        rise = tt;
        each = λ r h. absurd (no_member r h);
        all = λ m h is. absurd (no_member m h);
      },
    )
    ranked_of (m ∷ ms) = by (ranked_of ms) (rank_told m)
      where
        by : (rs : List Ranked) × AreOf ms rs → ((r : Ranked) × Ranks r × (r.mv ≡ m)) ⊎ ¬ Lists m
            → (rs : List Ranked) × AreOf (m ∷ ms) rs
        by (rs, are) (inl r) = one_more m ms rs are r.0 r.1 r.2
        by (rs, are) (inr not) = (rs, one_less m ms rs are not)

    -- a ranked move's move is among the moves
    move_there : (rs : List Ranked) (r : Ranked) → Contains rs r → Contains (moves_of rs) r.mv
    move_there rs r h = member_map (λ t. t.mv) rs r h

    -- a configuration has its list of moves
    pub list_there : (list : List Move) × AreListed (rulebook ctx) start cur goal list
    list_there = by (ranked_of (listed_finite ctx cur goal).0)
      where
        by : (rs : List Ranked) × AreOf (listed_finite ctx cur goal).0 rs
            → (list : List Move) × AreListed (rulebook ctx) start cur goal list
        by (rs, are) = (
          moves_of rs,
          (
            rs,
            record {
              each = λ k d lt. are.each _ (Contains-get_or rs k d lt);
              all = λ m is.
                  let r = are.all m ((listed_finite ctx cur goal).1 m is) is in
                  subst (Contains (moves_of rs)) r.2 (move_there rs r.0 r.1);
              order = all_rise listed_cmp listed_total listed_same rs are.rise;
            },
            refl,
          ),
        )
