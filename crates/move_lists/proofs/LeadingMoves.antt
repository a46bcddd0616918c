-- The first of some generated moves that aren't restoring, and the move that the list begins with.
use Rattle.std.proofs.Common.{◌≡◌, ◌≢◌, ◌⊎◌, inl, inr, ℕ, ◌+◌, ◌<◌, ◌≤◌, List, [], ◌∷◌, ◌++◌, length, take, get_or, Option, None, Some, false, arith, refl, sym, ap, subst, ◌∙◌, All}
use Rattle.std.specs.Cmp.{upto}
use Rattle.std.specs.List.{Contains}
use Rattle.std.specs.Ordering.{ordering_reverse}
use Rattle.std.specs.declared.cmp.Ordering.TheVariants.{Less, Greater}
use Rattle.std.proofs.lemmas.List.{take_more}
use Rattle.std.proofs.lemmas.List.Elements.{Contains-append_left, Contains-push, Contains-push_cases, All-contains, All-push}
use Rattle.conf_doc.specs.declared.configuration.Config.{Config}
use Rattle.move_core.specs.Generated.{IsRestoring}
use Rattle.move_core.specs.Listed.{EndsChain, HasTier, IsGeneratedMove, LeadsTo, chain_class}
use Rattle.move_core.specs.ListedOrder.{listed_cmp}
use Rattle.move_core.specs.ListedOrderLaws.{listed_total}
use Rattle.move_core.specs.Rulebook.{Rulebook}
use Rattle.move_core.specs.declared.moves.Generated.{Generated}
use Rattle.move_core.specs.declared.moves.Ranked.{Ranked}
use Rattle.move_lists.specs.Leading.{IsLeast, LeadsAmong, MayLead, lone}
use Rattle.move_lists.specs.Offers.{AreOffersOf, HasNoLeading, IsLeading}
use Rattle.move_lists.specs.Parts.{part_of}
use Rattle.move_lists.proofs.Chains.{same_tier}
use Rattle.move_lists.proofs.FirstChains.{gt_false, itself, not_gt}
use Rattle.move_lists.proofs.MoveChoices.{alone_tier}
use Rattle.move_lists.proofs.PartOrder.{part_first}
use Rattle.move_lists.proofs.Parts.{IsCase, early_bounds, part_bounds, part_case}

-- ---- the order

less_before : (r s : Ranked) → listed_cmp r s ≡ Less → listed_cmp r s ≢ Greater
less_before r s less greater = absurd (let e : Less ≡ Greater = sym less ∙ greater in cc)

-- what comes before one chain comes before what that one comes before or ties with
less_on : (r s t : Ranked) → listed_cmp r s ≡ Less → listed_cmp s t ≢ Greater → listed_cmp r t ≢ Greater
less_on r s t less rest =
    not_gt _ (upto listed_total r s t (gt_false _ (less_before r s less)) (gt_false _ rest))

-- what no other comes before isn't after it
not_after : (r s : Ranked) → listed_cmp s r ≢ Less → listed_cmp r s ≢ Greater
not_after r s other greater = other (listed_total.antisymm s r ∙ ap ordering_reverse greater)

-- ---- one more generated move

module _ (start goal : Config) (gs : List Generated) (g : Generated) where
  abbrev Restores : Generated → Type 0
  Restores = IsRestoring start goal

  abbrev more : List Generated
  more = gs ++ g ∷ []

  none_yet : All Restores gs → Restores g → All Restores more
  none_yet each is = All-push Restores gs g each is

  found_first : All Restores gs → ¬ Restores g → IsLeast start goal more g
  found_first each other = record {
    there = Contains-push gs g;
    other = other;
    least = λ h there not. by h not (Contains-push_cases gs g h there);
  }
    where
      by : (h : Generated) → ¬ Restores h → Contains gs h ⊎ (g ≡ h) → listed_cmp (lone g) (lone h) ≢ Greater
      by h not (inl before) = absurd (not (All-contains Restores gs h each before))
      by h not (inr same) = subst (λ x. listed_cmp (lone g) (lone x) ≢ Greater) same (itself (lone g))

  module _ (f : Generated) (is : IsLeast start goal gs f) where
    -- each that was looked at, and the next one
    with_next : (¬ Restores g → listed_cmp (lone f) (lone g) ≢ Greater) → IsLeast start goal more f
    with_next next = record {
      there = Contains-append_left gs (g ∷ []) f is.there;
      other = is.other;
      least = λ h there not. by h not (Contains-push_cases gs g h there);
    }
      where
        by : (h : Generated) → ¬ Restores h → Contains gs h ⊎ (g ≡ h) → listed_cmp (lone f) (lone h) ≢ Greater
        by h not (inl before) = is.least h before not
        by h not (inr same) =
            subst (λ x. listed_cmp (lone f) (lone x) ≢ Greater) same (next (subst (λ x. ¬ Restores x) (sym same) not))

    found_still : Restores g → IsLeast start goal more f
    found_still restores = with_next (λ not. absurd (not restores))

    found_before : listed_cmp (lone g) (lone f) ≢ Less → IsLeast start goal more f
    found_before later = with_next (λ not. not_after (lone f) (lone g) later)

    found_next : listed_cmp (lone g) (lone f) ≡ Less → ¬ Restores g → IsLeast start goal more g
    found_next less other = record {
      there = Contains-push gs g;
      other = other;
      least = λ h there not. by h not (Contains-push_cases gs g h there);
    }
      where
        by : (h : Generated) → ¬ Restores h → Contains gs h ⊎ (g ≡ h) → listed_cmp (lone g) (lone h) ≢ Greater
        by h not (inl before) = less_on (lone g) (lone f) (lone h) less (is.least h before not)
        by h not (inr same) = subst (λ x. listed_cmp (lone g) (lone x) ≢ Greater) same (itself (lone g))

  -- it comes before what was found, and isn't restoring
  pub now_leads : (found : Option Generated) → LeadsAmong start goal gs found → MayLead found g → ¬ Restores g
      → LeadsAmong start goal more (Some g)
  now_leads None each may other = found_first each other
  now_leads (Some f) is may other = found_next f is may other

  -- it is restoring
  pub still_leads : (found : Option Generated) → LeadsAmong start goal gs found → Restores g → LeadsAmong start goal more found
  still_leads None each is = none_yet each is
  still_leads (Some f) leads is = found_still f leads is

  -- it doesn't come before what was found
  pub leads_on : (found : Option Generated) → LeadsAmong start goal gs found → ¬ MayLead found g → LeadsAmong start goal more found
  leads_on None each later = absurd (later tt)
  leads_on (Some f) is later = found_before f is later

-- those up to an index, and the next one
pub one_more : {A : Type 0} (xs : List A) (i : ℕ) (x : A) → i < length xs → x ≡ get_or xs i x → take (i + 1) xs ≡ take i xs ++ x ∷ []
one_more xs i x lt at = take_more xs i x lt ∙ ap (λ y. take i xs ++ y ∷ []) (sym at)

-- ---- the move that the list begins with

-- a generated move alone that isn't restoring is a chain
lone_chain : (book : Rulebook) (start cur goal : Config) (g : Generated) → IsGeneratedMove book cur goal g → ¬ IsRestoring start goal g
    → EndsChain book start cur goal (lone g)
lone_chain book start cur goal g given other = record {
  first = g;
  generated = given;
  leads = refl;
  tier = alone_tier start goal g false other;
  class = refl;
}

module _ (book : Rulebook) (start cur goal : Config) (gs : List Generated) (are : AreOffersOf book cur goal gs) where
  -- a chain of part 1 is a generated move alone that isn't restoring
  pub first_part : (s : Ranked) → EndsChain book start cur goal s → part_of s ≡ 1
      → (g : Generated) × Contains gs g × (¬ IsRestoring start goal g) × (s ≡ lone g)
  first_part s is part = by (part_case start goal is.first s.depth s.tier is.tier)
    where
      alone : s.depth ≡ 0 → ¬ IsRestoring start goal is.first → s ≡ lone is.first
      alone none other =
          let tier : s.tier ≡ 1 =
          same_tier start goal is.first 0 s.tier 1 (subst (λ n. HasTier start goal is.first n s.tier) none is.tier)
          (alone_tier start goal is.first false other) in
          let class : s.class ≡ is.first.class = subst (λ n. s.class ≡ chain_class is.first n s.mv) none is.class in
          let mv : s.mv ≡ is.first.mv = subst (λ n. LeadsTo book cur goal is.first.mv n s.mv) none is.leads in
          λ i. record { tier = tier i; depth = none i; class = class i; mv = mv i }

      by : IsCase start goal is.first s.depth (part_of s)
          → (g : Generated) × Contains gs g × (¬ IsRestoring start goal g) × (s ≡ lone g)
      by (inl h) = (is.first, are.all is.first is.generated, h.1, alone h.0 h.1)
      by (inr (inl h)) = let t = sym h.2 ∙ part in absurd (omega (arith, t))
      by (inr (inr (inl h))) = let t = sym h.2 ∙ part in let low = (early_bounds s.depth h.0).0 in absurd (omega (arith, t, low))
      by (inr (inr (inr h))) = let t = sym h.2 ∙ part in absurd (omega (arith, t))

  -- where all are restoring there is none
  pub none_leading : All (IsRestoring start goal) gs → HasNoLeading book start cur goal
  none_leading each s is part =
      let h = first_part s is part in
      h.2 (All-contains (IsRestoring start goal) gs h.0 each h.1)

  -- the first that isn't restoring begins the list
  pub first_leading : (f : Generated) → IsLeast start goal gs f → IsLeading book start cur goal f.mv
  first_leading f least = record {
    chain = lone f;
    ends = lone_chain book start cur goal f (All-contains (IsGeneratedMove book cur goal) gs f are.each least.there) least.other;
    part = refl;
    mv = refl;
    first = before;
  }
    where
      before : (s : Ranked) → EndsChain book start cur goal s → listed_cmp (lone f) s ≢ Greater
      before s is = by (split (part_of s) (part_bounds start goal is.first s is.tier).0)
        where
          split : (p : ℕ) → 1 ≤ p → (p ≡ 1) ⊎ (1 < p)
          split p low = grind arith

          by : (part_of s ≡ 1) ⊎ (1 < part_of s) → listed_cmp (lone f) s ≢ Greater
          by (inl one) =
              let h = first_part s is one in
              subst (λ r. listed_cmp (lone f) r ≢ Greater) (sym h.3) (least.least h.0 h.1 h.2)
          by (inr later) = less_before (lone f) s (part_first (lone f) s later)
