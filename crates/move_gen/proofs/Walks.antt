-- Walks over pairs whose names rise, that give for each pair what is as P says.
use Rattle.std.proofs.Common.{◌≡◌, ◌↔◌, ◌⊎◌, ℕ, zero, suc, ◌+◌, ◌<◌, ◌≤◌, List, [], ◌∷◌, true, false, cond, map, length, slice_get, Option, Some, Result, Ordering, Less, Equal, Greater, is_eq, not, ◌==◌, inl, inr, refl, sym, ap, ◌∙◌, subst, arith}
use Rattle.std.specs.Cmp.Lexicographic.{nat_list_cmp_total}
use Rattle.std.specs.Ordering.{eq_by_cmp}
use Rattle.std.specs.Result.{IsErr}
use Rattle.std.proofs.lemmas.Bool.{and_parts, cases_lt}
use Rattle.std.proofs.lemmas.Cmp.{tied_itself}
use Rattle.host_core.specs.Names.{name_cmp}
use Rattle.move_core.specs.Appends.{Appends, AppendsSome}
use Rattle.conf_doc.specs.Pairs.{AreNamed, IsRising, find}
use Rattle.conf_doc.proofs.Edits.{find_at, first_from_at, same_name}
use Rattle.move_gen.specs.Giving.{Giver, Gives, IsNoneFrom, IsOfFirst, IsOfSome}
use Rattle.move_gen.proofs.ListGrowth.{appends_alike, appends_both, appends_none, appends_then_some, gives_some, some_weaker}

same_Some : {A : Type 0} (x y : A) → Some x ≡ Some y → x ≡ y
same_Some x y e = cc

ordered_equal : (o : Ordering) → is_eq o ≡ true → o ≡ Equal
ordered_equal Less e = cc
ordered_equal Equal e = refl
ordered_equal Greater e = cc

-- names that compare equal are one
pub same_by : (a b : List ℕ) → eq_by_cmp name_cmp a b ≡ true → a ≡ b
same_by a b e = same_name a b (ordered_equal (name_cmp a b) e)

pub itself : (a b : List ℕ) → a ≡ b → eq_by_cmp name_cmp a b ≡ true
itself a b e = ap (eq_by_cmp name_cmp a) (sym e) ∙ ap is_eq (tied_itself nat_list_cmp_total a)

-- a pair that is found has an index
pub place_of : {A : Type 0} (ps : List (List ℕ × A)) (name : List ℕ) (a : A) → find name ps ≡ Some a
    → (i : ℕ) × (i < length ps) × (slice_get (map (λ p. p.0) ps) i ≡ Some name) × (slice_get (map (λ p. p.1) ps) i ≡ Some a)
place_of [] name a there = cc
place_of {A} (p ∷ ps) name a there =
    elim (eq_by_cmp name_cmp name p.0) as (λ b. eq_by_cmp name_cmp name p.0 ≡ b → cond b (Some p.1) (find name ps) ≡ Some a
    → (i : ℕ) × (i < length (p ∷ ps)) × (slice_get (map (λ (q : List ℕ × A). q.0) (p ∷ ps)) i ≡ Some name) × (slice_get (map (λ (q : List ℕ × A). q.1) (p ∷ ps)) i ≡ Some a)) [
      | true ↦ λ e is. (0, omega arith, ap Some (sym (same_by name p.0 e)), is)
      | false ↦ λ e is. let rest = place_of ps name a is in (suc rest.0, omega (arith, rest.1), rest.2, rest.3)
    ] refl there

module _ {A B : Type 0} (P : Giver A B) (ps : List (List ℕ × A)) where
  -- before the first there is none
  pub first_none : (b : B) → ¬ IsOfFirst P ps 0 b
  first_none b h = let below = h.before in absurd (omega (arith, below))

  -- one pair further
  pub first_more : (i : ℕ) (n : List ℕ) (a : A) → slice_get (map (λ p. p.0) ps) i ≡ Some n → slice_get (map (λ p. p.1) ps) i ≡ Some a
      → (b : B) → IsOfFirst P ps (i + 1) b ↔ (IsOfFirst P ps i b ⊎ P n a b)
  first_more i n a named there b = (forth, back)
    where
      forth : IsOfFirst P ps (i + 1) b → IsOfFirst P ps i b ⊎ P n a b
      forth h =
          elim (cases_lt h.index i) as (λ _. IsOfFirst P ps i b ⊎ P n a b) [
            | inl less ↦ inl (record { index = h.index; before = less; name = h.name; named = h.named; part = h.part; there = h.there; is = h.is })
            | inr most ↦
                let before = h.before in
                let at : h.index ≡ i = omega (arith, before, most) in
                let name : h.name ≡ n = same_Some _ _ (sym h.named ∙ ap (slice_get (map (λ p. p.0) ps)) at ∙ named) in
                let part : h.part ≡ a = same_Some _ _ (sym h.there ∙ ap (slice_get (map (λ p. p.1) ps)) at ∙ there) in
                inr (subst (λ m. P m a b) name (subst (λ x. P h.name x b) part h.is))
          ]

      back : IsOfFirst P ps i b ⊎ P n a b → IsOfFirst P ps (i + 1) b
      back (inl h) = let below = h.before in record { index = h.index; before = omega (arith, below); name = h.name; named = h.named; part = h.part; there = h.there; is = h.is }
      back (inr p) = record { index = i; before = omega arith; name = n; named = named; part = a; there = there; is = p }

  -- what is given for the first pairs is given for some
  pub first_some : (n : ℕ) → IsRising ps → (b : B) → IsOfFirst P ps n b → IsOfSome P ps b
  first_some n rising b h = record { name = h.name; part = h.part; there = find_at ps h.name h.index rising h.named ∙ h.there; is = h.is }

  -- at the end they are all
  pub first_all : (n : ℕ) → IsRising ps → length ps ≤ n → (b : B) → IsOfFirst P ps n b ↔ IsOfSome P ps b
  first_all n rising end b = (first_some n rising b, back)
    where
      back : IsOfSome P ps b → IsOfFirst P ps n b
      back h =
          let at = place_of ps h.name h.part h.there in
          let within = at.1 in
          record { index = at.0; before = omega (arith, within, end); name = h.name; named = at.2; part = h.part; there = at.3; is = h.is }

  -- the items for two pairs differ, since each tells the name that it is for
  module _ (name_in : B → Option (List ℕ)) (telling : (n : List ℕ) (a : A) (b : B) → P n a b → name_in b ≡ Some n) (rising : IsRising ps) where
    pub first_apart : (i : ℕ) (n : List ℕ) (a : A) → slice_get (map (λ p. p.0) ps) i ≡ Some n → (b : B) → IsOfFirst P ps i b → P n a b → ⊥
    first_apart i n a named b h p =
        let same : h.name ≡ n = same_Some _ _ (sym (telling h.name h.part b h.is) ∙ telling n a b p) in
        let at : h.index ≡ i = first_from_at ps n h.index rising (h.named ∙ ap Some same) ∙ sym (first_from_at ps n i rising named) in
        let before = h.before in
        absurd (omega (arith, at, before))

    -- a walk that goes on
    pub walk_more : (i : ℕ) (n : List ℕ) (a : A) (old mid new : List B) → slice_get (map (λ p. p.0) ps) i ≡ Some n → slice_get (map (λ p. p.1) ps) i ≡ Some a
        → Appends (IsOfFirst P ps i) old mid → Appends (P n a) mid new → Appends (IsOfFirst P ps (i + 1)) old new
    walk_more i n a old mid new named there so_far one =
        appends_both (IsOfFirst P ps i) (P n a) (IsOfFirst P ps (i + 1)) old mid new (first_apart i n a named) (first_more i n a named there) so_far one

    -- one that stops
    pub walk_stops : {T E : Type 0} (r : Result T E) (i : ℕ) (n : List ℕ) (a : A) (old mid new : List B) → slice_get (map (λ p. p.0) ps) i ≡ Some n → slice_get (map (λ p. p.1) ps) i ≡ Some a
        → IsErr r → Appends (IsOfFirst P ps i) old mid → AppendsSome (P n a) mid new → Gives (IsOfSome P ps) r old new
    walk_stops r i n a old mid new named there fails so_far one =
        gives_some (IsOfSome P ps) r old new fails
        (some_weaker (IsOfFirst P ps (i + 1)) (IsOfSome P ps) old new (first_some (i + 1) rising)
        (appends_then_some (IsOfFirst P ps i) (P n a) (IsOfFirst P ps (i + 1)) old mid new (first_apart i n a named) (λ b. (first_more i n a named there b).1) so_far one))

  -- a walk that ends
  pub walk_ends : IsRising ps → (i : ℕ) (old new : List B) → length ps ≤ i → Appends (IsOfFirst P ps i) old new → Appends (IsOfSome P ps) old new
  walk_ends rising i old new end so_far = appends_alike (IsOfFirst P ps i) (IsOfSome P ps) old new (first_all i rising end) so_far

  -- behind pairs that none is for no more is given than before them
  first_passed : (i n : ℕ) → i ≤ n → IsNoneFrom P ps i n → (b : B) → IsOfFirst P ps i b ↔ IsOfFirst P ps n b
  first_passed i n upward none b = (forth, back)
    where
      forth : IsOfFirst P ps i b → IsOfFirst P ps n b
      forth h = let before = h.before in record { index = h.index; before = omega (arith, before, upward); name = h.name; named = h.named; part = h.part; there = h.there; is = h.is }

      back : IsOfFirst P ps n b → IsOfFirst P ps i b
      back h = elim (cases_lt h.index i) as (λ _. IsOfFirst P ps i b) [
        | inl less ↦ record { index = h.index; before = less; name = h.name; named = h.named; part = h.part; there = h.there; is = h.is }
        | inr from ↦ absurd (none h.index from h.before h.name h.part h.named h.there b h.is)
      ]

  -- a walk that passes over them
  pub walk_passes : (i n : ℕ) (old new : List B) → i ≤ n → IsNoneFrom P ps i n → Appends (IsOfFirst P ps i) old new → Appends (IsOfFirst P ps n) old new
  walk_passes i n old new upward none so_far = appends_alike (IsOfFirst P ps i) (IsOfFirst P ps n) old new (first_passed i n upward none) so_far

  -- one that begins
  pub walk_begins : (old : List B) → Appends (IsOfFirst P ps 0) old old
  walk_begins old = appends_none (IsOfFirst P ps 0) old first_none

-- a name of a list has letters
pub letters_at : {A : Type 0} (ps : List (List ℕ × A)) (i : ℕ) (n : List ℕ) → AreNamed ps → slice_get (map (λ p. p.0) ps) i ≡ Some n → 0 < length n
letters_at [] i n named at = cc
letters_at (p ∷ ps) zero n named at = subst (λ m. 0 < length m) (same_Some p.0 n at) (some_letters p.0 (and_parts _ _ named).0)
  where
    some_letters : (m : List ℕ) → not (length m == 0) ≡ true → 0 < length m
    some_letters [] e = cc
    some_letters (x ∷ xs) e = omega arith
letters_at (p ∷ ps) (suc i) n named at = letters_at ps i n (and_parts _ _ named).1 at
