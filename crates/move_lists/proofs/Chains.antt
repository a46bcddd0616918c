-- Tiers, ranks, and what reached moves hold.
use Rattle.std.proofs.Common.{◌≡◌, ◌≢◌, ◌⊎◌, inl, inr, ℕ, suc, ◌<◌, ◌≤◌, Bool, true, false, List, [], Option, Some, None, refl, sym, ap, subst, ◌∙◌, arith, true≢false}
use Rattle.std.specs.Cmp.{nat_cmp_total, tied_itself}
use Rattle.std.specs.Ordering.{eq_by_cmp, nat_cmp, ordering_then}
use Rattle.std.specs.declared.cmp.Ordering.{Ordering}
use Rattle.std.specs.declared.cmp.Ordering.TheVariants.{Less, Equal, Greater}
use Rattle.std.proofs.lemmas.Cmp.{ranked}
use Rattle.std.proofs.lemmas.List.Elements.{All-contains}
use Rattle.conf_doc.specs.Changes.{part_at}
use Rattle.conf_doc.specs.declared.configuration.Config.{Config}
use Rattle.conf_doc.specs.declared.parts.Part.{Part}
use Rattle.move_core.specs.Contexts.{rulebook}
use Rattle.move_core.specs.Generated.{IsRestoring}
use Rattle.move_core.specs.Listed.{EndsChain, HasTier, chain_class, IsListed, other_tier, restoring_tier}
use Rattle.move_core.specs.ListedOrder.{move_cmp, rank_cmp}
use Rattle.move_core.specs.declared.contexts.Ctx.{Ctx}
use Rattle.move_core.specs.declared.moves.Generated.{Generated}
use Rattle.move_core.specs.declared.moves.Move.{Move}
use Rattle.move_core.specs.declared.moves.Move.TheVariants.{Add, Remove, Replace, AddItem, RemoveItem}
use Rattle.move_core.specs.declared.moves.Ranked.{Ranked}
use Rattle.move_lists.specs.MoveKeys.{keys_decide}
use Rattle.move_lists.specs.Ranking.{IsReachOf}
use Rattle.move_lists.specs.Reaches.{Depths, HasMove, HasWithin, IsClosed, IsLedTo}
use Rattle.move_lists.specs.declared.asking.Question.{Question}
use Rattle.move_lists.proofs.MoveChoices.{LeadsEarly}
use Rattle.move_lists.proofs.Members.{no_member}

-- ---- agreement is decided

abbrev move_for : Option Part → Move
move_for None = Remove []
move_for (Some part) = Add [] part

part_for : (a b : Option Part) → move_for a ≡ move_for b → a ≡ b
part_for None None e = refl
part_for None (Some y) e = absurd (cc)
part_for (Some x) None e = absurd (cc)
part_for (Some x) (Some y) e = ap Some (same x y e)
  where
    same : (x y : Part) → Add [] x ≡ Add [] y → x ≡ y
    same x y e = cc

same_or_not : (a b : Option Part) → (a ≡ b) ⊎ ¬ (a ≡ b)
same_or_not a b = by (eq_by_cmp move_cmp (move_for a) (move_for b)) refl
  where
    by : (r : Bool) → eq_by_cmp move_cmp (move_for a) (move_for b) ≡ r → (a ≡ b) ⊎ ¬ (a ≡ b)
    by true e = inl (part_for a b ((keys_decide (move_for a) (move_for b)).0 e))
    by false e = inr (λ is. true≢false (sym ((keys_decide (move_for a) (move_for b)).1 (ap move_for is)) ∙ e))

pub restoring_or_not : (start goal : Config) (g : Generated) → IsRestoring start goal g ⊎ ¬ IsRestoring start goal g
restoring_or_not start goal g = same_or_not (part_at start g.place) (part_at goal g.place)

pub early_or_not : (start goal : Config) (g : Generated) → LeadsEarly start goal g ⊎ ¬ LeadsEarly start goal g
early_or_not start goal g = by (restoring_or_not start goal g) g.mv refl
  where
    by : IsRestoring start goal g ⊎ ¬ IsRestoring start goal g → (m : Move) → g.mv ≡ m
        → LeadsEarly start goal g ⊎ ¬ LeadsEarly start goal g
    by (inl is) m e = inr (λ h. h.0 is)
    by (inr not) (Add p v) e = inr (λ h. absurd (let t = sym (ap (λ x. other_tier x 1) e) ∙ h.1 in omega (arith, t)))
    by (inr not) (Remove p) e = inl (not, ap (λ x. other_tier x 1) e)
    by (inr not) (Replace p v) e = inl (not, ap (λ x. other_tier x 1) e)
    by (inr not) (AddItem p i v) e = inr (λ h. absurd (let t = sym (ap (λ x. other_tier x 1) e) ∙ h.1 in omega (arith, t)))
    by (inr not) (RemoveItem p i) e = inl (not, ap (λ x. other_tier x 1) e)

-- ---- tiers

-- a chain has one tier
pub same_tier : (start goal : Config) (g : Generated) (n s t : ℕ) → HasTier start goal g n s → HasTier start goal g n t → s ≡ t
same_tier start goal g n s t a b = by (restoring_or_not start goal g)
  where
    by : IsRestoring start goal g ⊎ ¬ IsRestoring start goal g → s ≡ t
    by (inl is) = a.restoring is ∙ sym (b.restoring is)
    by (inr not) = a.other not ∙ sym (b.other not)

-- some tier
pub some_tier : (start goal : Config) (g : Generated) (n : ℕ) → (t : ℕ) × HasTier start goal g n t
some_tier start goal g n = by (restoring_or_not start goal g)
  where
    by : IsRestoring start goal g ⊎ ¬ IsRestoring start goal g → (t : ℕ) × HasTier start goal g n t
    by (inl is) = (restoring_tier n, record { restoring = λ r. refl; other = λ not. absurd (not is) })
    by (inr not) = (other_tier g.mv n, record { restoring = λ r. absurd (not r); other = λ _. refl })

-- the tier of an extended chain doesn't depend on how long it is
other_tier_suc : (m : Move) (n : ℕ) → other_tier m (suc n) ≡ other_tier m 1
other_tier_suc (Add p v) n = refl
other_tier_suc (Remove p) n = refl
other_tier_suc (Replace p v) n = refl
other_tier_suc (AddItem p i v) n = refl
other_tier_suc (RemoveItem p i) n = refl

pub early_has : (start goal : Config) (g : Generated) (n : ℕ) → LeadsEarly start goal g → HasTier start goal g (suc n) 2
early_has start goal g n is = record {
  restoring = λ r. absurd (is.0 r);
  other = λ not. sym (other_tier_suc g.mv n ∙ is.1);
}

two_or_four : (m : Move) → (other_tier m 1 ≡ 2) ⊎ (other_tier m 1 ≡ 4)
two_or_four (Add p v) = inr refl
two_or_four (Remove p) = inl refl
two_or_four (Replace p v) = inl refl
two_or_four (AddItem p i v) = inr refl
two_or_four (RemoveItem p i) = inl refl

pub late_has : (start goal : Config) (g : Generated) (n : ℕ) → ¬ LeadsEarly start goal g → HasTier start goal g (suc n) 4
late_has start goal g n late = record { restoring = λ r. refl; other = λ not. by not (two_or_four g.mv) }
  where
    by : ¬ IsRestoring start goal g → (other_tier g.mv 1 ≡ 2) ⊎ (other_tier g.mv 1 ≡ 4) → 4 ≡ other_tier g.mv (suc n)
    by not (inl two) = absurd (late (not, two))
    by not (inr four) = sym (other_tier_suc g.mv n ∙ four)

-- ---- ranks

pub nat_less : (a b : ℕ) → a < b → nat_cmp a b ≡ Less
nat_less a b lt = by (nat_cmp a b) refl
  where
    by : (o : Ordering) → o ≡ nat_cmp a b → nat_cmp a b ≡ Less
    by Less e = sym e
    by Equal e = let h : a ≡ b = ranked a b Equal e in absurd (omega (arith, h, lt))
    by Greater e = let h : b < a = ranked a b Greater e in absurd (omega (arith, h, lt))

nat_itself : (a : ℕ) → nat_cmp a a ≡ Equal
nat_itself a = tied_itself nat_cmp_total a

less≢Greater : (o p : Ordering) → o ≡ Less → ordering_then o p ≢ Greater
less≢Greater Less p e g = absurd (cc)
less≢Greater Equal p e g = absurd (cc)
less≢Greater Greater p e g = absurd (cc)

equal_then : (o p : Ordering) → o ≡ Equal → p ≢ Greater → ordering_then o p ≢ Greater
equal_then Less p e n g = absurd (cc)
equal_then Equal p e n g = n g
equal_then Greater p e n g = absurd (cc)

equal≢Greater : (o : Ordering) → o ≡ Equal → o ≢ Greater
equal≢Greater Less e g = absurd (cc)
equal≢Greater Equal e g = absurd (cc)
equal≢Greater Greater e g = absurd (cc)

pub nat_cmp_same : (a b : ℕ) → a ≡ b → nat_cmp a b ≡ Equal
nat_cmp_same a b e = subst (λ x. nat_cmp a x ≡ Equal) e (nat_itself a)

-- of the same tier and class the one with fewer extensions comes first
pub no_deeper : (r s : Ranked) → r.tier ≡ s.tier → r.depth ≤ s.depth → r.class ≡ s.class → rank_cmp r s ≢ Greater
no_deeper r s tier depth class =
    equal_then (nat_cmp r.tier s.tier) _ (nat_cmp_same r.tier s.tier tier) (by (split r.depth s.depth depth))
  where
    split : (a b : ℕ) → a ≤ b → (a < b) ⊎ (a ≡ b)
    split a b h = grind arith

    by : (r.depth < s.depth) ⊎ (r.depth ≡ s.depth)
        → ordering_then (nat_cmp r.depth s.depth) (nat_cmp r.class s.class) ≢ Greater
    by (inl lt) = less≢Greater (nat_cmp r.depth s.depth) _ (nat_less r.depth s.depth lt)
    by (inr e) =
        equal_then (nat_cmp r.depth s.depth) _ (nat_cmp_same r.depth s.depth e)
        (equal≢Greater (nat_cmp r.class s.class) (nat_cmp_same r.class s.class class))

-- a listed move ends some chain
pub some_chain : (ctx : Ctx) (start cur goal : Config) (m : Move) → IsListed (rulebook ctx) cur goal m
    → (r : Ranked) × EndsChain (rulebook ctx) start cur goal r × (r.mv ≡ m)
some_chain ctx start cur goal m is =
    let tier = some_tier start goal is.first is.depth in (
      record { tier = tier.0; depth = is.depth; class = chain_class is.first is.depth m; mv = m },
      record { first = is.first; generated = is.generated; leads = is.leads; tier = tier.1; class = refl },
      refl,
    )

-- the reached ones hold all that follows
pub early_closed : (q : Question) (ms : List Move) (es : Depths) → IsReachOf q [] ms es → IsClosed q es
early_closed q ms es reach m x h follows =
    let from = All-contains (IsLedTo q ms) es (m, h.0) reach.each h.1 in
    by (reach.all from.0 (suc h.0) x from.1 (m, from.2, follows))
  where
    by : HasMove [] x ⊎ HasWithin es (suc h.0) x → HasMove es x
    by (inl none) = absurd (no_member _ none.1)
    by (inr w) = (w.0, w.2)

-- nothing is closed
pub none_closed : (q : Question) → IsClosed q []
none_closed q m x h follows = absurd (no_member _ h.1)
