-- The listed moves of a configuration can't fail to have a list.
use Rattle.std.proofs.Common.{◌≡◌, ◌≢◌, ◌⊎◌, inl, inr, ℕ, ◌≤◌, List, [], ◌∷◌, refl, sym, ap, subst, ◌∙◌, arith}
use Rattle.std.specs.List.{Contains}
use Rattle.std.specs.Ordering.{nat_cmp, ordering_then}
use Rattle.std.specs.declared.cmp.Ordering.{Ordering}
use Rattle.std.specs.declared.cmp.Ordering.TheVariants.{Less, Equal, Greater}
use Rattle.std.proofs.lemmas.Cmp.{ranked}
use Rattle.std.proofs.lemmas.List.Elements.{Contains-get_or}
use Rattle.conf_doc.specs.declared.configuration.Config.{Config}
use Rattle.move_core.specs.Contexts.{rulebook}
use Rattle.move_core.specs.Listed.{AreListed, AreRanked, EndsChain, IsListed, IsRanked, moves_of}
use Rattle.move_core.specs.ListedOrder.{listed_cmp, rank_cmp}
use Rattle.move_core.specs.ListedOrderLaws.{listed_same, listed_total}
use Rattle.move_core.specs.declared.contexts.Ctx.{Ctx}
use Rattle.move_core.specs.declared.moves.Move.{Move}
use Rattle.move_core.specs.declared.moves.Ranked.{Ranked}
use Rattle.move_lists.proofs.Chains.{some_chain}
use Rattle.move_lists.proofs.MoveForms.{listed_finite}
use Rattle.move_lists.proofs.Members.{first_member, later_member, member_cases, no_member}
use Rattle.move_lists.proofs.OrderedInsertion.{IsPutIn, Rise, all_rise, put_in}
use Rattle.move_lists.proofs.DoubleNegation.{surely, surely_decided, surely_lowest, then_surely}

-- ---- ranks

-- no greater number first, and where they are the same the rest decides
not_greater : (a b : ℕ) (rest : Ordering) → a ≤ b → (a ≡ b → rest ≢ Greater) → ordering_then (nat_cmp a b) rest ≢ Greater
not_greater a b rest le same greater = by (nat_cmp a b) refl
  where
    by : (o : Ordering) → o ≡ nat_cmp a b → ⊥
    by Less e = let h = ap (λ x. ordering_then x rest) e ∙ greater in absurd (cc)
    by Equal e = same (ranked a b Equal e) (ap (λ x. ordering_then x rest) e ∙ greater)
    by Greater e = let less = ranked a b Greater e in absurd (omega (arith, le, less))

no_greater : (a b : ℕ) → a ≤ b → nat_cmp a b ≢ Greater
no_greater a b le greater = let less = ranked a b Greater (sym greater) in absurd (omega (arith, le, less))

module _ (ctx : Ctx) (start cur goal : Config) where
  abbrev Ranks : Ranked → Type 0
  Ranks r = IsRanked (rulebook ctx) start cur goal r

  abbrev Lists : Move → Type 0
  Lists m = IsListed (rulebook ctx) cur goal m

  module _ (m : Move) where
    -- a chain that ends with the move
    abbrev Ends : Ranked → Type 0
    Ends r = EndsChain (rulebook ctx) start cur goal r × (r.mv ≡ m)

    -- one of the tier
    abbrev EndsIn : ℕ → Ranked → Type 0
    EndsIn tier r = Ends r × (r.tier ≡ tier)

    -- one of the tier and the number of extensions
    abbrev EndsAt : ℕ → ℕ → Ranked → Type 0
    EndsAt tier depth r = Ends r × (r.tier ≡ tier) × (r.depth ≡ depth)

    -- of the chains of the least tier those of the fewest extensions, and of these one of the least class
    lowest_ranked : (a b c : Ranked) → ((s : Ranked) → Ends s → a.tier ≤ s.tier) → ((s : Ranked) → EndsIn a.tier s → b.depth ≤ s.depth)
        → EndsAt a.tier b.depth c → ((s : Ranked) → EndsAt a.tier b.depth s → c.class ≤ s.class) → Ranks c
    lowest_ranked a b c lowest fewest is least = record {
      ends = is.0.0;
      least = λ s same chain. at_most s (chain, same ∙ is.0.1);
    }
      where
        at_most : (s : Ranked) → Ends s → rank_cmp c s ≢ Greater
        at_most s ends =
            not_greater c.tier s.tier _ (subst (λ n. n ≤ s.tier) (sym is.1) (lowest s ends))
            (λ tier. let in_tier : s.tier ≡ a.tier = sym tier ∙ is.1 in
            not_greater c.depth s.depth _ (subst (λ n. n ≤ s.depth) (sym is.2) (fewest s (ends, in_tier)))
            (λ depth. no_greater c.class s.class (least s (ends, in_tier, sym depth ∙ is.2))))

    -- a listed move can't fail to have its rank
    surely_ranked : Lists m → ¬ ¬ ((r : Ranked) × Ranks r × (r.mv ≡ m))
    surely_ranked is =
        let s = some_chain ctx start cur goal m is in
        then_surely (surely_lowest Ends (λ r. r.tier) s.0 (s.1, s.2)) (λ a.
        then_surely (surely_lowest (EndsIn a.0.tier) (λ r. r.depth) a.0 (a.1.0, refl)) (λ b.
        then_surely (surely_lowest (EndsAt a.0.tier b.0.depth) (λ r. r.class) b.0 (b.1.0.0, b.1.0.1, refl)) (λ c.
        surely (c.0, lowest_ranked a.0 b.0 c.0 a.1.1 b.1.1 c.1.0 c.1.1, c.1.0.0.1))))

  -- ---- the list

  -- those of some moves that are listed, with their ranks, in order
  record AreOf (ms : List Move) (rs : List Ranked) : Type 0 where
    rise : Rise listed_cmp listed_total listed_same rs
    each : (r : Ranked) → Contains rs r → Ranks r
    all : (m : Move) → Contains ms m → Lists m → (r : Ranked) × Contains rs r × (r.mv ≡ m)

  -- one that isn't listed changes nothing
  one_less : (m : Move) (ms : List Move) (rs : List Ranked) → AreOf ms rs → ¬ Lists m → AreOf (m ∷ ms) rs
  one_less m ms rs are not = record { rise = are.rise; each = are.each; all = λ n h is. by n is (member_cases m ms n h) }
    where
      by : (n : Move) → Lists n → (m ≡ n) ⊎ Contains ms n → (r : Ranked) × Contains rs r × (r.mv ≡ n)
      by n is (inl e) = absurd (not (subst Lists (sym e) is))
      by n is (inr h) = are.all n h is

  -- one that is listed is put in
  one_more : (m : Move) (ms : List Move) (rs : List Ranked) → AreOf ms rs → (r : Ranked) → Ranks r → r.mv ≡ m
      → (new : List Ranked) × AreOf (m ∷ ms) new
  one_more m ms rs are r is at = (new.0, record { rise = put.rise; each = λ s h. ranks s (put.only s h); all = λ n h listed. by n (member_cases m ms n h) listed })
    where
      new : (new : List Ranked) × IsPutIn listed_cmp listed_total listed_same r rs new
      new = put_in listed_cmp listed_total listed_same r rs are.rise

      put : IsPutIn listed_cmp listed_total listed_same r rs new.0
      put = new.1

      ranks : (s : Ranked) → (s ≡ r) ⊎ Contains rs s → Ranks s
      ranks s (inl e) = subst Ranks (sym e) is
      ranks s (inr h) = are.each s h

      by : (n : Move) → (m ≡ n) ⊎ Contains ms n → Lists n → (s : Ranked) × Contains new.0 s × (s.mv ≡ n)
      by n (inl e) listed = (r, put.here, at ∙ e)
      by n (inr h) listed = let s = are.all n h listed in (s.0, put.kept s.0 s.1, s.2)

  surely_of : (ms : List Move) → ¬ ¬ ((rs : List Ranked) × AreOf ms rs)
  surely_of [] = surely ([], record { rise = tt; each = λ r h. absurd (no_member r h); all = λ m h is. absurd (no_member m h) })
  surely_of (m ∷ ms) = then_surely (surely_of ms) (λ rest. then_surely (surely_decided (Lists m)) (λ is. by rest.0 rest.1 is))
    where
      by : (rs : List Ranked) → AreOf ms rs → Lists m ⊎ ¬ Lists m → ¬ ¬ ((new : List Ranked) × AreOf (m ∷ ms) new)
      by rs are (inl is) = then_surely (surely_ranked m is) (λ r. surely (one_more m ms rs are r.0 r.1 r.2))
      by rs are (inr not) = surely (rs, one_less m ms rs are not)

  -- a ranked move's move is among the moves
  move_there : (rs : List Ranked) (r : Ranked) → Contains rs r → Contains (moves_of rs) r.mv
  move_there [] r h = absurd (no_member r h)
  move_there (s ∷ rs) r h = by (move_there rs r) (member_cases s rs r h)
    where
      by : (Contains rs r → Contains (moves_of rs) r.mv) → (s ≡ r) ⊎ Contains rs r → Contains (moves_of (s ∷ rs)) r.mv
      by later (inl e) = subst (Contains (moves_of (s ∷ rs))) (ap (λ t. t.mv) e) (first_member s.mv (moves_of rs))
      by later (inr k) = later_member s.mv (moves_of rs) r.mv (later k)

  pub surely_listed : ¬ ¬ ((list : List Move) × AreListed (rulebook ctx) start cur goal list)
  surely_listed = then_surely (surely_of finite.0) (λ s. surely (moves_of s.0, (s.0, are_ranked s.0 s.1, refl)))
    where
      finite : (ms : List Move) × ((m : Move) → Lists m → Contains ms m)
      finite = listed_finite ctx cur goal

      are_ranked : (rs : List Ranked) → AreOf finite.0 rs → AreRanked (rulebook ctx) start cur goal rs
      are_ranked rs are = record {
        each = λ k d lt. are.each _ (Contains-get_or rs k d lt);
        all = λ m is. let r = are.all m (finite.1 m is) is in subst (Contains (moves_of rs)) r.2 (move_there rs r.0 r.1);
        order = all_rise listed_cmp listed_total listed_same rs are.rise;
      }
