-- The chains of a part, and what chains of lesser parts end with.
use Rattle.std.proofs.Common.{◌≡◌, ◌⊎◌, ◌↔◌, inl, inr, ℕ, zero, suc, ◌+◌, ◌<◌, ◌≤◌, Bool, true, false, List, [], refl, sym, ap, subst, ◌∙◌, arith, All}
use Rattle.std.specs.List.{Contains}
use Rattle.std.proofs.lemmas.List.Elements.{Contains-append_left, Contains-append_cases, All-contains, All-weaker}
use Rattle.conf_doc.specs.declared.configuration.Config.{Config}
use Rattle.move_core.specs.Generated.{IsRestoring}
use Rattle.move_core.specs.Listed.{HasTier, chain_class, place_class}
use Rattle.move_core.specs.declared.moves.Generated.{Generated}
use Rattle.move_core.specs.declared.moves.Move.{Move}
use Rattle.move_core.specs.declared.moves.Ranked.{Ranked}
use Rattle.move_lists.specs.Parts.{chain_part, part_of}
use Rattle.move_lists.specs.Questions.{IsOffered, LeadsIn}
use Rattle.move_lists.specs.Ranking.{AddsExtended, AreChainsIn, AreEarlier, HasLeast, IsChain, IsEarlier, IsExtended, lone_tier}
use Rattle.move_lists.specs.Reaches.{AreNoted, AreOnce, Depths, HasMove, HasWithin, IsLedTo}
use Rattle.move_lists.specs.declared.asking.Question.{Question}
use Rattle.move_lists.proofs.Chains.{early_has, early_or_not, late_has, no_deeper, restoring_or_not, same_tier}
use Rattle.move_lists.proofs.MoveChoices.{AreAlone, AreMovesOf, IsAlone, IsMoveOf, IsOneAlone, IsReachFrom, LeadsEarly, Meets, alone_tier}
use Rattle.move_lists.proofs.Members.{no_member}
use Rattle.move_lists.proofs.PartOrder.{early_at}

-- ---- what part a chain has

-- the part of a generated move alone, that is restoring or isn't
abbrev pub lone_part : Bool → ℕ
lone_part true = 6
lone_part false = 1

lone_at : (b : Bool) → chain_part (lone_tier b) 0 ≡ lone_part b
lone_at true = refl
lone_at false = refl

-- a generated move alone, restoring or not, or an extended chain that leads early or late
abbrev pub IsCase : Config → Config → Generated → ℕ → ℕ → Type 0
IsCase start goal g n p =
    ((n ≡ 0) × Meets false (IsRestoring start goal g) × (p ≡ 1))
    ⊎ (((n ≡ 0) × Meets true (IsRestoring start goal g) × (p ≡ 6))
    ⊎ (((0 < n) × LeadsEarly start goal g × (p ≡ chain_part 2 n))
    ⊎ ((0 < n) × (¬ LeadsEarly start goal g) × (p ≡ 7))))

pub part_case : (start goal : Config) (g : Generated) (n t : ℕ) → HasTier start goal g n t → IsCase start goal g n (chain_part t n)
part_case start goal g zero t has = by (restoring_or_not start goal g)
  where
    by : IsRestoring start goal g ⊎ ¬ IsRestoring start goal g → IsCase start goal g zero (chain_part t zero)
    by (inl is) = inr (inl (refl, is, ap (λ x. chain_part x 0) (has.restoring is)))
    by (inr not) = inl (refl, not, ap (λ x. chain_part x 0) (has.other not))
part_case start goal g (suc n) t has = by (early_or_not start goal g)
  where
    by : LeadsEarly start goal g ⊎ ¬ LeadsEarly start goal g → IsCase start goal g (suc n) (chain_part t (suc n))
    by (inl is) =
        inr (inr (inl (omega arith, is, ap (λ x. chain_part x (suc n)) (same_tier start goal g (suc n) t 2 has (early_has start goal g n is)))))
    by (inr late) =
        inr (inr (inr (omega arith, late, ap (λ x. chain_part x (suc n)) (same_tier start goal g (suc n) t 4 has (late_has start goal g n late)))))

-- ---- the parts of early chains

-- they are greater than 1 and no greater than 5
pub early_bounds : (n : ℕ) → 0 < n → (1 < chain_part 2 n) × (chain_part 2 n ≤ 5)
early_bounds n pos = by (early_at n)
  where
    by : ((n ≤ 3) × (chain_part 2 n ≡ 1 + n)) ⊎ ((3 < n) × (chain_part 2 n ≡ 5)) → (1 < chain_part 2 n) × (chain_part 2 n ≤ 5)
    by (inl h) = let le = h.0 in let e = h.1 in (omega (arith, e, pos), omega (arith, e, le))
    by (inr h) = let e = h.1 in (omega (arith, e), omega (arith, e))

-- each part is one of 1 to 7
pub part_bounds : (start goal : Config) (g : Generated) (r : Ranked) → HasTier start goal g r.depth r.tier → (1 ≤ part_of r) × (part_of r ≤ 7)
part_bounds start goal g r has = by (part_case start goal g r.depth r.tier has)
  where
    by : IsCase start goal g r.depth (part_of r) → (1 ≤ part_of r) × (part_of r ≤ 7)
    by (inl h) = let t = h.2 in (omega (arith, t), omega (arith, t))
    by (inr (inl h)) = let t = h.2 in (omega (arith, t), omega (arith, t))
    by (inr (inr (inl h))) =
        let t = h.2 in
        let low = (early_bounds r.depth h.0).0 in
        let high = (early_bounds r.depth h.0).1 in (omega (arith, t, low), omega (arith, t, high))
    by (inr (inr (inr h))) = let t = h.2 in (omega (arith, t), omega (arith, t))

-- a part of early chains: those of so many extensions, or of so many and more
pub record IsEarlyPart (p least : ℕ) : Type 0 where
  pub low : 1 < p
  pub high : p ≤ 5
  pub below : (n : ℕ) → n < least → chain_part 2 n < p
  pub here : (n : ℕ) → chain_part 2 n ≡ p → least ≤ n
  pub before : (n : ℕ) → chain_part 2 n < p → n < least

-- with one, two or three extensions
pub few_part : (k : ℕ) → 1 ≤ k → k ≤ 3 → IsEarlyPart (1 + k) k
few_part k some few = record {
  low = omega (arith, some);
  high = omega (arith, few);
  below = λ n lt. below n lt (early_at n);
  here = λ n e. here n e (early_at n);
  before = λ n lt. before n lt (early_at n);
}
  where
    below : (n : ℕ) → n < k → ((n ≤ 3) × (chain_part 2 n ≡ 1 + n)) ⊎ ((3 < n) × (chain_part 2 n ≡ 5)) → chain_part 2 n < 1 + k
    below n lt (inl h) = let e = h.1 in omega (arith, e, lt)
    below n lt (inr h) = let l = h.0 in absurd (omega (arith, l, lt, few))

    here : (n : ℕ) → chain_part 2 n ≡ 1 + k → ((n ≤ 3) × (chain_part 2 n ≡ 1 + n)) ⊎ ((3 < n) × (chain_part 2 n ≡ 5)) → k ≤ n
    here n is (inl h) = let e = h.1 in omega (arith, e, is)
    here n is (inr h) = let l = h.0 in omega (arith, l, few)

    before : (n : ℕ) → chain_part 2 n < 1 + k → ((n ≤ 3) × (chain_part 2 n ≡ 1 + n)) ⊎ ((3 < n) × (chain_part 2 n ≡ 5)) → n < k
    before n lt (inl h) = let e = h.1 in omega (arith, e, lt)
    before n lt (inr h) = let e = h.1 in absurd (omega (arith, e, lt, few))

-- the part of one such number of extensions
pub few_at : (k n : ℕ) → k ≤ 3 → k ≤ n → n ≤ k → chain_part 2 n ≡ 1 + k
few_at k n few least most = by (early_at n)
  where
    by : ((n ≤ 3) × (chain_part 2 n ≡ 1 + n)) ⊎ ((3 < n) × (chain_part 2 n ≡ 5)) → chain_part 2 n ≡ 1 + k
    by (inl h) = let e = h.1 in omega (arith, e, least, most)
    by (inr h) = let l = h.0 in absurd (omega (arith, l, most, few))

-- a part up to it has no more
pub few_within : (k n : ℕ) → k ≤ 3 → chain_part 2 n ≤ 1 + k → n ≤ k
few_within k n few most = by (early_at n)
  where
    by : ((n ≤ 3) × (chain_part 2 n ≡ 1 + n)) ⊎ ((3 < n) × (chain_part 2 n ≡ 5)) → n ≤ k
    by (inl h) = let e = h.1 in omega (arith, e, most)
    by (inr h) = let e = h.1 in absurd (omega (arith, e, most, few))

-- with four or more
pub many_part : IsEarlyPart 5 4
many_part = record {
  low = omega arith;
  high = omega arith;
  below = λ n lt. below n lt (early_at n);
  here = λ n e. here n e (early_at n);
  before = λ n lt. before n lt (early_at n);
}
  where
    below : (n : ℕ) → n < 4 → ((n ≤ 3) × (chain_part 2 n ≡ 1 + n)) ⊎ ((3 < n) × (chain_part 2 n ≡ 5)) → chain_part 2 n < 5
    below n lt (inl h) = let e = h.1 in omega (arith, e, lt)
    below n lt (inr h) = let l = h.0 in absurd (omega (arith, l, lt))

    here : (n : ℕ) → chain_part 2 n ≡ 5 → ((n ≤ 3) × (chain_part 2 n ≡ 1 + n)) ⊎ ((3 < n) × (chain_part 2 n ≡ 5)) → 4 ≤ n
    here n is (inl h) = let e = h.1 in omega (arith, e, is)
    here n is (inr h) = let l = h.0 in omega (arith, l)

    before : (n : ℕ) → chain_part 2 n < 5 → ((n ≤ 3) × (chain_part 2 n ≡ 1 + n)) ⊎ ((3 < n) × (chain_part 2 n ≡ 5)) → n < 4
    before n lt (inl h) = let l = h.0 in omega (arith, l)
    before n lt (inr h) = let e = h.1 in absurd (omega (arith, e, lt))

pub many_at : (n : ℕ) → 4 ≤ n → chain_part 2 n ≡ 5
many_at n many = by (early_at n)
  where
    by : ((n ≤ 3) × (chain_part 2 n ≡ 1 + n)) ⊎ ((3 < n) × (chain_part 2 n ≡ 5)) → chain_part 2 n ≡ 5
    by (inl h) = let l = h.0 in absurd (omega (arith, l, many))
    by (inr h) = h.1

-- ---- noted moves

-- what was noted is what was there and the moves
pub noted : (old new : Depths) (ms : List Move) (d : ℕ) → AreNoted [] old new ms d → (m : Move) → HasMove new m ↔ (HasMove old m ⊎ Contains ms m)
noted old new ms d are m = (forth, back)
  where
    of : (e : ℕ) → Contains old (m, e) ⊎ Contains are.more (m, e) → HasMove old m ⊎ Contains ms m
    of e (inl h) = inl (e, h)
    of e (inr h) = inr (All-contains (λ (p : Move × ℕ). Contains ms p.0 × (p.1 ≡ d)) are.more (m, e) are.each h).0

    forth : HasMove new m → HasMove old m ⊎ Contains ms m
    forth h = of h.0 (Contains-append_cases old are.more (m, h.0) (subst (λ (l : Depths). Contains l (m, h.0)) are.follows h.1))

    new_one : HasMove [] m ⊎ HasMove new m → HasMove new m
    new_one (inl none) = absurd (no_member _ none.1)
    new_one (inr h) = h

    back : HasMove old m ⊎ Contains ms m → HasMove new m
    back (inl h) = (h.0, subst (λ (l : Depths). Contains l (m, h.0)) (sym are.follows) (Contains-append_left old are.more (m, h.0) h.1))
    back (inr h) = new_one (are.all m h)

module _ (q : Question) (firsts : List Generated) (offered : All (IsOffered q) firsts)
    (all : (g : Generated) → IsOffered q g → Contains firsts g) where
  abbrev start : Config
  start = q.start.now

  abbrev goal : Config
  goal = q.goal.now

  -- the case of a chain
  abbrev Case : (s : Ranked) → IsChain q s → Type 0
  Case s is = IsCase start goal is.first s.depth (part_of s)

  case_of : (s : Ranked) (is : IsChain q s) → Case s is
  case_of s is = part_case start goal is.first s.depth s.tier is.tier

  -- ---- generated moves alone

  alone_chain : (g : Generated) (r : Ranked) → Contains firsts g → IsAlone start goal g r → IsChain q r
  alone_chain g r there is = record {
    first = g;
    generated = All-contains (IsOffered q) firsts g offered there;
    leads = subst (λ n. LeadsIn q g.mv n r.mv) (sym is.depth) is.mv;
    tier = subst (λ n. HasTier start goal g n r.tier) (sym is.depth) is.tier;
    class = subst (λ n. r.class ≡ chain_class g n r.mv) (sym is.depth) is.class;
  }

  -- a chain of a part that is above the part of a generated move
  lone : (b : Bool) (p : ℕ) (m : Move) (g : Generated) → lone_part b < p → Contains firsts g → Meets b (IsRestoring start goal g) → g.mv ≡ m
      → IsEarlier q p m
  lone b p m g lt there meets is =
      let r : Ranked = record { tier = lone_tier b; depth = 0; class = g.class; mv = g.mv } in (
        r,
        alone_chain g r there (record { mv = refl; depth = refl; tier = alone_tier start goal g b meets; class = refl }),
        is,
        subst (λ n. n < p) (sym (lone_at b)) lt,
      )

  module _ (b : Bool) (rs : List Ranked) (alone : AreAlone start goal b firsts rs) where
    each_alone : (r : Ranked) → IsOneAlone start goal b firsts r → IsChain q r × (part_of r ≡ lone_part b)
    each_alone r h = (
      alone_chain h.0 r h.1 h.3,
      ap (λ t. chain_part t r.depth) (same_tier start goal h.0 0 r.tier (lone_tier b) h.3.tier (alone_tier start goal h.0 b h.2))
          ∙ ap (chain_part (lone_tier b)) h.3.depth ∙ lone_at b,
    )

    least_alone : (s : Ranked) → IsChain q s → part_of s ≡ lone_part b → HasLeast rs s ⊎ IsEarlier q (lone_part b) s.mv
    least_alone s is part = by b refl (case_of s is)
      where
        one : s.depth ≡ 0 → Meets b (IsRestoring start goal is.first) → HasLeast rs s
        one none meets =
            let h = alone.all is.first (all is.first is.generated) meets in
            let same : h.0.tier ≡ s.tier = same_tier start goal is.first 0 h.0.tier s.tier h.2.tier (subst (λ n. HasTier start goal is.first n s.tier) none is.tier) in
            let class : s.class ≡ is.first.class = subst (λ n. s.class ≡ chain_class is.first n s.mv) none is.class in
            let leads : s.mv ≡ is.first.mv = subst (λ n. LeadsIn q is.first.mv n s.mv) none is.leads in
            let depth = h.2.depth in (
              h.0,
              h.1,
              h.2.mv ∙ sym leads,
              no_deeper h.0 s same (omega (arith, depth)) (h.2.class ∙ sym class),
            )

        by : (c : Bool) → b ≡ c → Case s is → HasLeast rs s ⊎ IsEarlier q (lone_part b) s.mv
        by false e (inl h) = inl (one h.0 (subst (λ x. Meets x (IsRestoring start goal is.first)) (sym e) h.1))
        by true e (inl h) = let t = sym h.2 ∙ part ∙ ap lone_part e in absurd (omega (arith, t))
        by true e (inr (inl h)) = inl (one h.0 (subst (λ x. Meets x (IsRestoring start goal is.first)) (sym e) h.1))
        by false e (inr (inl h)) = let t = sym h.2 ∙ part ∙ ap lone_part e in absurd (omega (arith, t))
        by true e (inr (inr (inl h))) =
            let t = sym h.2 ∙ part ∙ ap lone_part e in let high = (early_bounds s.depth h.0).1 in absurd (omega (arith, t, high))
        by false e (inr (inr (inl h))) =
            let t = sym h.2 ∙ part ∙ ap lone_part e in let low = (early_bounds s.depth h.0).0 in absurd (omega (arith, t, low))
        by true e (inr (inr (inr h))) = let t = sym h.2 ∙ part ∙ ap lone_part e in absurd (omega (arith, t))
        by false e (inr (inr (inr h))) = let t = sym h.2 ∙ part ∙ ap lone_part e in absurd (omega (arith, t))

    pub alone_chains : AreChainsIn q (lone_part b) rs
    alone_chains = record {
      each = All-weaker (IsOneAlone start goal b firsts) (λ r. IsChain q r × (part_of r ≡ lone_part b)) each_alone rs alone.each;
      least = least_alone;
    }

  -- ---- extended moves

  -- of the generated moves that are as P says, whose extended chains have a tier; alone they are of parts below p
  module _ (P : Generated → Type 0) (t p : ℕ) (has : (g : Generated) (n : ℕ) → P g → HasTier start goal g (suc n) t)
      (early : (m : Move) (g : Generated) → Contains firsts g → P g → g.mv ≡ m → IsEarlier q p m)
      (ms : List Move) (es : Depths) (of : AreMovesOf P firsts ms) (led : All (IsLedTo q ms) es) where
    led_chain : (m : Move) (n : ℕ) → Contains es (m, suc n)
        → (class : ℕ) → class ≡ place_class m → IsChain q (record { tier = t; depth = suc n; class = class; mv = m })
    led_chain m n there class is =
        let from = All-contains (IsLedTo q ms) es (m, suc n) led there in
        let g = All-contains (IsMoveOf P firsts) ms from.0 of.each from.1 in
        record {
          first = g.0;
          generated = All-contains (IsOffered q) firsts g.0 offered g.1;
          leads = subst (λ f. LeadsIn q f (suc n) m) (sym g.3) from.2;
          tier = has g.0 n g.2;
          class = is;
        }

    -- what was reached with no extension is generated
    reached_none : (m : Move) → Contains es (m, 0) → IsEarlier q p m
    reached_none m there =
        let from = All-contains (IsLedTo q ms) es (m, 0) led there in
        let g = All-contains (IsMoveOf P firsts) ms from.0 of.each from.1 in
        early m g.0 g.1 g.2 (g.3 ∙ sym from.2)

    -- what was reached with so many that the part is below p
    pub reached_below : (m : Move) (d : ℕ) → Contains es (m, d) → (0 < d → chain_part t d < p) → IsEarlier q p m
    reached_below m zero there below = reached_none m there
    reached_below m (suc n) there below =
        (record { tier = t; depth = suc n; class = place_class m; mv = m }, led_chain m n there (place_class m) refl, refl, below (omega arith))

    module _ (least : ℕ) (rs : List Ranked) (adds : AddsExtended es t least [] rs) (some : 0 < least)
        (lands : (m : Move) (d : ℕ) → Contains es (m, d) → least ≤ d → chain_part t d ≡ p) where
      each_extended : (r : Ranked) → IsExtended es t least r → IsChain q r × (part_of r ≡ p)
      each_extended r is = (by r.depth refl, ap (λ x. chain_part x r.depth) is.tier_is ∙ lands r.mv r.depth is.there is.extended)
        where
          by : (n : ℕ) → r.depth ≡ n → IsChain q r
          by zero e = let more = is.extended in absurd (omega (arith, more, e, some))
          by (suc n) e =
              let c = led_chain r.mv n (subst (λ d. Contains es (r.mv, d)) e is.there) r.class is.class in
              record {
                first = c.first;
                generated = c.generated;
                leads = subst (λ d. LeadsIn q c.first.mv d r.mv) (sym e) c.leads;
                tier = subst (λ x. HasTier start goal c.first r.depth x) (sym is.tier_is) (subst (λ d. HasTier start goal c.first d t) (sym e) c.tier);
                class = subst (λ d. r.class ≡ chain_class c.first d r.mv) (sym e) c.class;
              }

      -- a move that was reached within some extensions has a chain of no greater rank, or one of a lesser part
      within : ((n : ℕ) → 0 < n → n < least → chain_part t n < p) → (s : Ranked) → s.tier ≡ t → s.class ≡ place_class s.mv → HasWithin es s.depth s.mv
          → HasLeast rs s ⊎ IsEarlier q p s.mv
      within below s tier class (d, le, there) = by (split d least)
        where
          split : (a b : ℕ) → (a < b) ⊎ (b ≤ a)
          split a b = grind arith

          by : (d < least) ⊎ (least ≤ d) → HasLeast rs s ⊎ IsEarlier q p s.mv
          by (inl less) = inr (reached_below s.mv d there (λ pos. below d pos less))
          by (inr more) =
              let h = adds.all s.mv d there more in
              let depth = h.3 in
              inl (
                h.0,
                subst (λ l. Contains l h.0) (sym adds.follows) h.1,
                h.2,
                no_deeper h.0 s (h.4.tier_is ∙ sym tier) (omega (arith, depth, le)) (h.4.class ∙ ap place_class h.2 ∙ sym class),
              )

      class_of : (s : Ranked) (is : IsChain q s) → 0 < s.depth → s.class ≡ place_class s.mv
      class_of s is pos = by s.depth refl
        where
          by : (n : ℕ) → s.depth ≡ n → s.class ≡ place_class s.mv
          by zero e = absurd (omega (arith, pos, e))
          by (suc n) e = subst (λ d. s.class ≡ chain_class is.first d s.mv) e is.class

      tier_of : (s : Ranked) (is : IsChain q s) → 0 < s.depth → P is.first → s.tier ≡ t
      tier_of s is pos so = by s.depth refl
        where
          by : (n : ℕ) → s.depth ≡ n → s.tier ≡ t
          by zero e = absurd (omega (arith, pos, e))
          by (suc n) e = same_tier start goal is.first (suc n) s.tier t (subst (λ d. HasTier start goal is.first d s.tier) e is.tier) (has is.first n so)

      pub extended_chains : ((n : ℕ) → 0 < n → n < least → chain_part t n < p) → ((s : Ranked) (is : IsChain q s) → part_of s ≡ p → (0 < s.depth) × P is.first)
          → ((s : Ranked) → IsChain q s → part_of s ≡ p → HasWithin es s.depth s.mv ⊎ IsEarlier q p s.mv)
          → AreChainsIn q p rs
      extended_chains below so held = record {
        each = subst (All (λ r. IsChain q r × (part_of r ≡ p))) (sym adds.follows)
            (All-weaker (IsExtended es t least) (λ r. IsChain q r × (part_of r ≡ p)) each_extended adds.more adds.each);
        least = λ s is part. by s is (so s is part) (held s is part);
      }
        where
          by : (s : Ranked) (is : IsChain q s) → (0 < s.depth) × P is.first → HasWithin es s.depth s.mv ⊎ IsEarlier q p s.mv
              → HasLeast rs s ⊎ IsEarlier q p s.mv
          by s is fits (inl w) = within below s (tier_of s is fits.0 fits.1) (class_of s is fits.0) w
          by s is fits (inr e) = inr e

  -- ---- the chains of each part

  abbrev Early : Generated → Type 0
  Early = LeadsEarly start goal

  abbrev Late : Generated → Type 0
  Late g = ¬ LeadsEarly start goal g

  early_before : (p : ℕ) → 1 < p → (m : Move) (g : Generated) → Contains firsts g → Early g → g.mv ≡ m → IsEarlier q p m
  early_before p low m g there is e = lone false p m g low there is.0 e

  late_before : (m : Move) (g : Generated) → Contains firsts g → Late g → g.mv ≡ m → IsEarlier q 7 m
  late_before m g there late e = by (restoring_or_not start goal g)
    where
      by : IsRestoring start goal g ⊎ ¬ IsRestoring start goal g → IsEarlier q 7 m
      by (inl is) = lone true 7 m g (omega arith) there is e
      by (inr not) = lone false 7 m g (omega arith) there not e

  later : (s t : ℕ) (m : Move) → s ≤ t → IsEarlier q s m → IsEarlier q t m
  later s t m le e = let lt = e.3 in (e.0, e.1, e.2, omega (arith, lt, le))

  pub chains_alone : (rs : List Ranked) → AreAlone start goal false firsts rs → AreChainsIn q 1 rs
  chains_alone rs adds = alone_chains false rs adds

  pub chains_restoring : (rs : List Ranked) → AreAlone start goal true firsts rs → AreChainsIn q 6 rs
  chains_restoring rs adds = alone_chains true rs adds

  -- a chain of a part of early ones
  early_of : (p least : ℕ) → IsEarlyPart p least → (s : Ranked) (is : IsChain q s) → part_of s ≡ p
      → (0 < s.depth) × Early is.first × (chain_part 2 s.depth ≡ p)
  early_of p least part s is at = by (case_of s is)
    where
      by : Case s is → (0 < s.depth) × Early is.first × (chain_part 2 s.depth ≡ p)
      by (inl h) = let t = h.2 in let low = part.low in absurd (omega (arith, t, at, low))
      by (inr (inl h)) = let t = h.2 in let high = part.high in absurd (omega (arith, t, at, high))
      by (inr (inr (inl h))) = (h.0, h.1, sym h.2 ∙ at)
      by (inr (inr (inr h))) = let t = h.2 in let high = part.high in absurd (omega (arith, t, at, high))

  -- those that were reached with so many extensions or more
  module _ (p least : ℕ) (part : IsEarlyPart p least) (some : 0 < least) (ms : List Move) (es : Depths) (of : AreMovesOf Early firsts ms)
      (led : All (IsLedTo q ms) es) (rs : List Ranked) (adds : AddsExtended es 2 least [] rs)
      (held : (f : Move) (n : ℕ) (x : Move) → Contains ms f → chain_part 2 n ≤ p → LeadsIn q f n x → HasWithin es n x) where
    early_held : (s : Ranked) (is : IsChain q s) → Early is.first → chain_part 2 s.depth ≤ p → HasWithin es s.depth s.mv
    early_held s is leads most = held is.first.mv s.depth s.mv (of.all is.first (all is.first is.generated) leads) most is.leads

    pub early_chains : ((m : Move) (d : ℕ) → Contains es (m, d) → least ≤ d → chain_part 2 d ≡ p) → AreChainsIn q p rs
    early_chains lands =
        extended_chains Early 2 p (early_has start goal) (early_before p part.low) ms es of led least rs adds some lands (λ n pos less. part.below n less)
        (λ s is at. let h = early_of p least part s is at in (h.0, h.1))
        (λ s is at. let h = early_of p least part s is at in let e = h.2 in inl (early_held s is h.1 (omega (arith, e))))

    -- of these a lesser chain is a generated move that isn't restoring
    early_alone : AreOnce es → (r : Ranked) → Contains rs r → (s : Ranked) (is : IsChain q s) → s.mv ≡ r.mv → part_of s < p
        → (s.depth ≡ 0) × ¬ IsRestoring start goal is.first
    early_alone once r there s is same lt = by (case_of s is)
      where
        extended : IsExtended es 2 least r
        extended = All-contains (IsExtended es 2 least) adds.more r adds.each (subst (λ l. Contains l r) adds.follows there)

        no : Early is.first → chain_part 2 s.depth < p → ⊥
        no leads below =
            let w = early_held s is leads (omega (arith, below)) in
            let tied = once r.mv r.depth w.0 extended.there (subst (λ m. Contains {X = Move × ℕ} es (m, w.0)) same w.2) in
            let le = w.1 in
            let fewer = part.before s.depth below in
            let more = extended.extended in omega (arith, tied, le, fewer, more)

        by : Case s is → (s.depth ≡ 0) × ¬ IsRestoring start goal is.first
        by (inl h) = (h.0, h.1)
        by (inr (inl h)) = let t = h.2 in let high = part.high in absurd (omega (arith, t, lt, high))
        by (inr (inr (inl h))) = absurd (no h.1 (subst (λ n. n < p) h.2 lt))
        by (inr (inr (inr h))) = let t = h.2 in let high = part.high in absurd (omega (arith, t, lt, high))

  -- what was reached early ends a chain of a part up to 5
  early_ends : (early : Depths) → IsReachFrom q Early firsts [] early → (m : Move) → HasMove early m → IsEarlier q 6 m
  early_ends early of m h = reached_below Early 2 6 (early_has start goal) (early_before 6 (omega arith)) of.0 early of.1 of.2.each m h.0 h.1 (λ pos. by h.0 (early_at h.0))
    where
      by : (n : ℕ) → ((n ≤ 3) × (chain_part 2 n ≡ 1 + n)) ⊎ ((3 < n) × (chain_part 2 n ≡ 5)) → chain_part 2 n < 6
      by n (inl h) = let e = h.1 in let l = h.0 in omega (arith, e, l)
      by n (inr h) = let e = h.1 in omega (arith, e)

  pub chains_others : (early es : Depths) (rs : List Ranked) → IsReachFrom q Early firsts [] early → IsReachFrom q Late firsts early es → AddsExtended es 4 1 [] rs
      → AreChainsIn q 7 rs
  chains_others early es rs first of adds =
      extended_chains Late 4 7 (late_has start goal) late_before of.0 es of.1 of.2.each 1 rs adds (omega arith) (λ m d there more. refl)
      (λ n pos less. absurd (omega (arith, pos, less))) so held
    where
      so : (s : Ranked) (is : IsChain q s) → part_of s ≡ 7 → (0 < s.depth) × Late is.first
      so s is part = by (case_of s is)
        where
          by : Case s is → (0 < s.depth) × Late is.first
          by (inl h) = let t = h.2 in absurd (omega (arith, t, part))
          by (inr (inl h)) = let t = h.2 in absurd (omega (arith, t, part))
          by (inr (inr (inl h))) = let t = h.2 in let high = (early_bounds s.depth h.0).1 in absurd (omega (arith, t, part, high))
          by (inr (inr (inr h))) = (h.0, h.1)

      held : (s : Ranked) → IsChain q s → part_of s ≡ 7 → HasWithin es s.depth s.mv ⊎ IsEarlier q 7 s.mv
      held s is part = by (of.2.all is.first.mv s.depth s.mv (of.1.all is.first (all is.first is.generated) (so s is part).1) is.leads)
        where
          by : HasMove early s.mv ⊎ HasWithin es s.depth s.mv → HasWithin es s.depth s.mv ⊎ IsEarlier q 7 s.mv
          by (inl h) = inr (later 6 7 s.mv (omega arith) (early_ends early first s.mv h))
          by (inr w) = inl w

  -- ---- what chains of lesser parts end with

  abbrev Others : List Move → Type 0
  Others ms = AreMovesOf (λ g. ¬ IsRestoring start goal g) firsts ms

  abbrev Restorings : List Move → Type 0
  Restorings ms = AreMovesOf (IsRestoring start goal) firsts ms

  -- of a chain alone the move is the generated one
  alone_there : (P : Generated → Type 0) (ms : List Move) → AreMovesOf P firsts ms → (s : Ranked) (is : IsChain q s) → s.depth ≡ 0 → P is.first → Contains ms s.mv
  alone_there P ms of s is none p =
      let leads : s.mv ≡ is.first.mv = subst (λ n. LeadsIn q is.first.mv n s.mv) none is.leads in
      subst (Contains ms) (sym leads) (of.all is.first (all is.first is.generated) p)

  lone_of : (P : Generated → Type 0) (b : Bool) (p : ℕ) (ms : List Move) → AreMovesOf P firsts ms → ((g : Generated) → P g → Meets b (IsRestoring start goal g))
      → lone_part b < p → (m : Move) → Contains ms m → IsEarlier q p m
  lone_of P b p ms of meets lt m h =
      let g = All-contains (IsMoveOf P firsts) ms m of.each h in
      lone b p m g.0 lt g.1 (meets g.0 g.2) g.3

  early_there : (early : Depths) → IsReachFrom q Early firsts [] early → (s : Ranked) (is : IsChain q s) → Early is.first → HasMove early s.mv
  early_there early of s is p = by (of.2.all is.first.mv s.depth s.mv (of.1.all is.first (all is.first is.generated) p) is.leads)
    where
      by : HasMove [] s.mv ⊎ HasWithin early s.depth s.mv → HasMove early s.mv
      by (inl none) = absurd (no_member _ none.1)
      by (inr w) = (w.0, w.2)

  pub earlier_alone : (rs : List Ranked) → AreEarlier q 1 rs []
  earlier_alone rs = record { each = λ m h. absurd (no_member _ h.1); all = λ r there e. by e.0 e.1 e.3 }
    where
      by : {m : Move} (s : Ranked) → IsChain q s → part_of s < 1 → HasMove [] m
      by s is lt = of (case_of s is)
        where
          of : {m : Move} → Case s is → HasMove [] m
          of (inl h) = let t = h.2 in absurd (omega (arith, t, lt))
          of (inr (inl h)) = let t = h.2 in absurd (omega (arith, t, lt))
          of (inr (inr (inl h))) = let t = h.2 in let low = (early_bounds s.depth h.0).0 in absurd (omega (arith, t, lt, low))
          of (inr (inr (inr h))) = let t = h.2 in absurd (omega (arith, t, lt))

  module _ (others : List Move) (of_others : Others others) where
    -- for a part of early chains the generated moves that aren't restoring do
    pub earlier_early : (p least : ℕ) (part : IsEarlyPart p least) (some : 0 < least) (ms : List Move) (es : Depths) (of : AreMovesOf Early firsts ms)
        (led : All (IsLedTo q ms) es) (rs : List Ranked) (adds : AddsExtended es 2 least [] rs)
        (held : (f : Move) (n : ℕ) (x : Move) → Contains ms f → chain_part 2 n ≤ p → LeadsIn q f n x → HasWithin es n x)
        → AreOnce es → (known : Depths) → AreNoted [] [] known others 0 → AreEarlier q p rs known
    earlier_early p least part some ms es of led rs adds held once known are = record {
      each = λ m h. each m ((noted [] known others 0 are m).0 h);
      all = λ r there e. (noted [] known others 0 are r.mv).1 (inr (subst (Contains others) e.2 (alone r there e.0 e.1 e.2 e.3)));
    }
      where
        each : (m : Move) → HasMove [] m ⊎ Contains others m → IsEarlier q p m
        each m (inl none) = absurd (no_member _ none.1)
        each m (inr h) = lone_of (λ g. ¬ IsRestoring start goal g) false p others of_others (λ g p. p) part.low m h

        alone : (r : Ranked) → Contains rs r → (s : Ranked) → IsChain q s → s.mv ≡ r.mv → part_of s < p → Contains others s.mv
        alone r there s is same lt =
            let h = early_alone p least part some ms es of led rs adds held once r there s is same lt in
            alone_there (λ g. ¬ IsRestoring start goal g) others of_others s is h.0 h.1

    module _ (early : Depths) (of : IsReachFrom q Early firsts [] early) where
      early_or_other : (m : Move) → HasMove early m ⊎ Contains others m → IsEarlier q 6 m
      early_or_other m (inl h) = early_ends early of m h
      early_or_other m (inr h) = lone_of (λ g. ¬ IsRestoring start goal g) false 6 others of_others (λ g p. p) (omega arith) m h

      there_before : (s : Ranked) → IsChain q s → part_of s < 6 → HasMove early s.mv ⊎ Contains others s.mv
      there_before s is lt = by (case_of s is)
        where
          by : Case s is → HasMove early s.mv ⊎ Contains others s.mv
          by (inl h) = inr (alone_there (λ g. ¬ IsRestoring start goal g) others of_others s is h.0 h.1)
          by (inr (inl h)) = let t = h.2 in absurd (omega (arith, t, lt))
          by (inr (inr (inl h))) = inl (early_there early of s is h.1)
          by (inr (inr (inr h))) = let t = h.2 in absurd (omega (arith, t, lt))

      pub earlier_restoring : (rs : List Ranked) (known : Depths) → AreNoted [] early known others 0 → AreEarlier q 6 rs known
      earlier_restoring rs known are = record {
        each = λ m h. early_or_other m ((noted early known others 0 are m).0 h);
        all = λ r there e. (noted early known others 0 are r.mv).1 (subst (λ x. HasMove early x ⊎ Contains others x) e.2 (there_before e.0 e.1 e.3));
      }

      pub earlier_others : (rs : List Ranked) (restorings : List Move) (first known : Depths) → Restorings restorings → AreNoted [] early first others 0
          → AreNoted [] first known restorings 0 → AreEarlier q 7 rs known
      earlier_others rs restorings first known of_restorings are again = record {
        each = λ m h. each m ((noted first known restorings 0 again m).0 h);
        all = λ r _ e. (noted first known restorings 0 again r.mv).1 (subst (λ x. HasMove first x ⊎ Contains restorings x) e.2 (there e.0 e.1 e.3));
      }
        where
          each : (m : Move) → HasMove first m ⊎ Contains restorings m → IsEarlier q 7 m
          each m (inl h) = later 6 7 m (omega arith) (early_or_other m ((noted early first others 0 are m).0 h))
          each m (inr h) = lone_of (IsRestoring start goal) true 7 restorings of_restorings (λ g p. p) (omega arith) m h

          there : (s : Ranked) → IsChain q s → part_of s < 7 → HasMove first s.mv ⊎ Contains restorings s.mv
          there s is lt = by (case_of s is)
            where
              before : part_of s < 6 → HasMove first s.mv ⊎ Contains restorings s.mv
              before less = inl ((noted early first others 0 are s.mv).1 (there_before s is less))

              by : Case s is → HasMove first s.mv ⊎ Contains restorings s.mv
              by (inl h) = let t = h.2 in before (omega (arith, t))
              by (inr (inl h)) = inr (alone_there (IsRestoring start goal) restorings of_restorings s is h.0 h.1)
              by (inr (inr (inl h))) = let t = h.2 in let high = (early_bounds s.depth h.0).1 in before (omega (arith, t, high))
              by (inr (inr (inr h))) = let t = h.2 in absurd (omega (arith, t, lt))
