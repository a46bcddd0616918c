-- The parts of the list and their order.
use Rattle.std.proofs.Common.{◌≡◌, ◌≢◌, ◌⊎◌, inl, inr, ℕ, ◌+◌, ◌<◌, ◌≤◌, Bool, true, false, nat_le, if◌then◌else◌, refl, subst, arith}
use Rattle.std.specs.Ordering.{nat_cmp, ordering_then}
use Rattle.std.specs.declared.cmp.Ordering.{Ordering}
use Rattle.std.specs.declared.cmp.Ordering.TheVariants.{Less, Equal, Greater}
use Rattle.std.proofs.lemmas.Bool.Decides.{nat_tests}
use Rattle.move_core.specs.ListedOrder.{listed_cmp, move_cmp, rank_cmp}
use Rattle.move_core.specs.declared.moves.Ranked.{Ranked}
use Rattle.move_lists.specs.Parts.{chain_part, part_of}
use Rattle.move_lists.proofs.Chains.{nat_cmp_same, nat_less}

-- ---- the part of a tier and a number of extensions

-- tier 1, tier 2 with few extensions or more, or a later tier
abbrev IsAt : ℕ → ℕ → ℕ → Type 0
IsAt t d p =
    ((t ≤ 1) × (p ≡ t))
    ⊎ (((t ≡ 2) × (d ≤ 3) × (p ≡ 1 + d)) ⊎ (((t ≡ 2) × (3 < d) × (p ≡ 5)) ⊎ ((2 < t) × (p ≡ t + 3))))

is_at : (t d : ℕ) → IsAt t d (chain_part t d)
is_at t d = by (nat_le t 1) (nat_le t 2) (nat_le d 3) refl refl refl
  where
    yes : (a b : ℕ) → nat_le a b ≡ true → a ≤ b
    yes a b e = grind (arith, nat_tests)

    no : (a b : ℕ) → nat_le a b ≡ false → b < a
    no a b e = grind (arith, nat_tests)

    by : (a b c : Bool) → nat_le t 1 ≡ a → nat_le t 2 ≡ b → nat_le d 3 ≡ c
        → IsAt t d (if a then t else if b then (if c then 1 + d else 5) else t + 3)
    by true b c x y z = inl (yes t 1 x, refl)
    by false true true x y z = let l = no t 1 x in let h = yes t 2 y in inr (inl (omega (arith, l, h), yes d 3 z, refl))
    by false true false x y z = let l = no t 1 x in let h = yes t 2 y in inr (inr (inl (omega (arith, l, h), no d 3 z, refl)))
    by false false c x y z = inr (inr (inr (no t 2 y, refl)))

-- of tier 2
abbrev IsEarlyAt : ℕ → ℕ → Type 0
IsEarlyAt d p = ((d ≤ 3) × (p ≡ 1 + d)) ⊎ ((3 < d) × (p ≡ 5))

pub early_at : (d : ℕ) → IsEarlyAt d (chain_part 2 d)
early_at d = by (is_at 2 d)
  where
    by : IsAt 2 d (chain_part 2 d) → IsEarlyAt d (chain_part 2 d)
    by (inl h) = let l = h.0 in absurd (omega (arith, l))
    by (inr (inl h)) = inl (h.1, h.2)
    by (inr (inr (inl h))) = inr (h.1, h.2)
    by (inr (inr (inr h))) = let l = h.0 in absurd (omega (arith, l))

-- a later tier has no lesser part
tier_rises : (s t d e : ℕ) → s < t → chain_part s d ≤ chain_part t e
tier_rises s t d e lt = by (is_at s d) (is_at t e)
  where
    by : IsAt s d (chain_part s d) → IsAt t e (chain_part t e) → chain_part s d ≤ chain_part t e
    by a b = grind arith

-- nor have more extensions
depth_rises : (t d e : ℕ) → d ≤ e → chain_part t d ≤ chain_part t e
depth_rises t d e le = by (is_at t d) (is_at t e)
  where
    by : IsAt t d (chain_part t d) → IsAt t e (chain_part t e) → chain_part t d ≤ chain_part t e
    by a b = grind arith

-- of a lesser part is the lesser tier, or in the same tier the lesser number of extensions
lesser_part : (s t d e : ℕ) → chain_part s d < chain_part t e → (s < t) ⊎ ((s ≡ t) × (d < e))
lesser_part s t d e lt = by (split s t) (split d e)
  where
    split : (a b : ℕ) → (a < b) ⊎ ((a ≡ b) ⊎ (b < a))
    split a b = grind arith

    same : s ≡ t → e ≤ d → ⊥
    same is le =
        let no = depth_rises t e d le in
        let here = subst (λ x. chain_part x d < chain_part t e) is lt in omega (arith, no, here)

    by : (s < t) ⊎ ((s ≡ t) ⊎ (t < s)) → (d < e) ⊎ ((d ≡ e) ⊎ (e < d)) → (s < t) ⊎ ((s ≡ t) × (d < e))
    by (inl less) k = inl less
    by (inr (inr more)) k = absurd (let no = tier_rises t s e d more in omega (arith, no, lt))
    by (inr (inl is)) (inl less) = inr (is, less)
    by (inr (inl is)) (inr (inl tied)) = absurd (same is (omega (arith, tied)))
    by (inr (inl is)) (inr (inr more)) = absurd (same is (omega (arith, more)))

-- ---- ranks

less_first : (o p : Ordering) → o ≡ Less → ordering_then o p ≡ Less
less_first Less p e = refl
less_first Equal p e = absurd (cc)
less_first Greater p e = absurd (cc)

equal_first : (o p : Ordering) → o ≡ Equal → p ≡ Less → ordering_then o p ≡ Less
equal_first Less p e less = refl
equal_first Equal p e less = less
equal_first Greater p e less = absurd (cc)

-- a chain of a lesser part has the lesser rank
rank_less : (r s : Ranked) → part_of r < part_of s → rank_cmp r s ≡ Less
rank_less r s lt = by (lesser_part r.tier s.tier r.depth s.depth lt)
  where
    by : (r.tier < s.tier) ⊎ ((r.tier ≡ s.tier) × (r.depth < s.depth)) → rank_cmp r s ≡ Less
    by (inl less) = less_first (nat_cmp r.tier s.tier) _ (nat_less r.tier s.tier less)
    by (inr h) =
        equal_first (nat_cmp r.tier s.tier) _ (nat_cmp_same r.tier s.tier h.0)
        (less_first (nat_cmp r.depth s.depth) _ (nat_less r.depth s.depth h.1))

pub less_part : (r s : Ranked) → part_of r < part_of s → rank_cmp r s ≢ Greater
less_part r s lt greater = let less = rank_less r s lt in absurd (cc)

-- and comes first
pub part_first : (r s : Ranked) → part_of r < part_of s → listed_cmp r s ≡ Less
part_first r s lt = less_first (rank_cmp r s) (move_cmp r.mv s.mv) (rank_less r s lt)
