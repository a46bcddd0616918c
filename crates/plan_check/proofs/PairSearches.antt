-- Pairs whose names rise, by index and by name.
use Rattle.std.proofs.Common.{◌≡◌, ℕ, suc, ◌+◌, ◌<◌, ◌≤◌, List, [], ◌∷◌, true, false, cond, map, length, slice_get, Option, Some, None, option_map, inl, inr, refl, sym, ap, ◌∙◌, subst, arith}
use Rattle.std.specs.Ordering.{eq_by_cmp}
use Rattle.std.proofs.lemmas.Bool.{cases_lt}
use Rattle.std.proofs.lemmas.Option.{slice_get-map, slice_get_within}
use Rattle.host_core.specs.Names.{name_cmp}
use Rattle.conf_doc.specs.Pairs.{AreNamed, IsRising, find}
use Rattle.conf_doc.proofs.Edits.{find_at}
use Rattle.conf_doc.proofs.WellFormed.{named_at}
use Rattle.plan_check.proofs.UntouchedPlaces.{same_by}

module _ {A : Type 0} where
  -- what stands at an index is found by its name
  pub found_at : (ps : List (List ℕ × A)) (i : ℕ) (f : List ℕ) (a : A) → IsRising ps → slice_get ps i ≡ Some (f, a) → find f ps ≡ Some a
  found_at ps i f a rising is =
      find_at ps f i rising (slice_get-map (λ (q : List ℕ × A). q.0) ps i ∙ ap (option_map (λ (q : List ℕ × A). q.0)) is)
      ∙ slice_get-map (λ (q : List ℕ × A). q.1) ps i ∙ ap (option_map (λ (q : List ℕ × A). q.1)) is

  -- what is found stands at an index
  pub index_of : (ps : List (List ℕ × A)) (f : List ℕ) (a : A) → find f ps ≡ Some a → (i : ℕ) × (slice_get ps i ≡ Some (f, a))
  index_of [] f a is = cc
  index_of (p ∷ ps) f a is =
      elim (eq_by_cmp name_cmp f p.0) as (λ b. eq_by_cmp name_cmp f p.0 ≡ b → cond b (Some p.1) (find f ps) ≡ Some a → (i : ℕ) × (slice_get (p ∷ ps) i ≡ Some (f, a))) [
        | true ↦ λ e there. (0, let name = same_by f p.0 e in let part : p.1 ≡ a = same_Some p.1 a there in λ j. Some (sym name j, part j))
        | false ↦ λ e there. let rest = index_of ps f a there in (suc rest.0, rest.1)
      ] refl is
    where
      same_Some : (x y : A) → Some x ≡ Some y → x ≡ y
      same_Some x y e = cc

  -- what is so of each pair before an index, and at it
  pub each_more : (P : List ℕ → A → Type 0) (ps : List (List ℕ × A)) (i : ℕ) (f : List ℕ) (a : A) → slice_get ps i ≡ Some (f, a) → P f a
      → ((j : ℕ) (g : List ℕ) (b : A) → j < i → slice_get ps j ≡ Some (g, b) → P g b)
      → (j : ℕ) (g : List ℕ) (b : A) → j < i + 1 → slice_get ps j ≡ Some (g, b) → P g b
  each_more P ps i f a at is before j g b lt there = elim (cases_lt j i) [
    | inl old ↦ before j g b old there
    | inr new ↦
        let same : j ≡ i = omega arith in
        let pair = same_Some (f, a) (g, b) (sym at ∙ ap (slice_get ps) (sym same) ∙ there) in
        let name : f ≡ g = ap (λ (p : List ℕ × A). p.0) pair in
        let part : a ≡ b = ap (λ (p : List ℕ × A). p.1) pair in
        subst (λ n. P n b) name (subst (P f) part is)
  ]
    where
      same_Some : (x y : List ℕ × A) → Some x ≡ Some y → x ≡ y
      same_Some x y e = cc

  -- so it is of what is found
  pub each_found : (P : List ℕ → A → Type 0) (ps : List (List ℕ × A)) (n : ℕ) → length ps ≤ n
      → ((j : ℕ) (g : List ℕ) (b : A) → j < n → slice_get ps j ≡ Some (g, b) → P g b) → (f : List ℕ) (a : A) → find f ps ≡ Some a → P f a
  each_found P ps n end each f a is =
      let at = index_of ps f a is in
      let within = slice_get_within ps at.0 (f, a) at.1 in
      each at.0 f a (omega arith) at.1

-- a name is no empty text
pub named_name : {A : Type 0} (ps : List (List ℕ × A)) (i : ℕ) (n : List ℕ) → AreNamed ps → slice_get (map (λ p. p.0) ps) i ≡ Some n → 0 < length n
named_name {A} ps i n named at = by (slice_get ps i) refl (sym (slice_get-map (λ (p : List ℕ × A). p.0) ps i) ∙ at)
  where
    by : (o : Option (List ℕ × A)) → slice_get ps i ≡ o → option_map (λ (p : List ℕ × A). p.0) o ≡ Some n → 0 < length n
    by None is e = absurd cc
    by (Some p) is e = let same : p.0 ≡ n = cc in subst (λ m. 0 < length m) same (named_at ps i p named is)
