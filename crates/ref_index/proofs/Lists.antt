-- Lists of places to which one is put, or of which one is taken.
use Rattle.std.proofs.Common.{◌≡◌, ◌≢◌, ◌⊎◌, ◌||◌, ◌&&◌, inl, inr, ℕ, zero, suc, List, [], ◌∷◌, ◌++◌, Bool, true, false, cond, not, Option, Some, None, refl, sym, ap, ◌∙◌, subst, nat_eq, arith}
use Rattle.std.specs.Bool.{Decides}
use Rattle.std.specs.List.{AllPairs, Contains, filter, list_any}
use Rattle.std.specs.Str.{bytes_eq}
use Rattle.std.proofs.lemmas.Bool.Decides.{Decides-and, Decides-eqb, Decides-like, not_from_Decides}
use Rattle.std.proofs.lemmas.Slice.Eq.{bytes_eq-Decides}
use Rattle.std.proofs.lemmas.List.Elements.{All-contains, All-contains_itself, All-filter, Contains-append_left, Contains-get_or, Contains-push, Contains-push_cases, filter_passes}
use Rattle.std.proofs.lemmas.List.Kept.{AllPairs-filter}
use Rattle.std.proofs.lemmas.List.Quantifiers.{all_pairs_push}
use Rattle.ref_index.specs.Places.{is_name, is_place, with_place, without_place}
use Rattle.ref_index.specs.declared.places.Place.{Place}

names_decide : (a b : Option (List ℕ)) → Decides (is_name a b) (a ≡ b)
names_decide None None = (λ _. refl, λ _. refl)
names_decide None (Some b) = (λ h. absurd (cc), λ h. absurd (cc))
names_decide (Some a) None = (λ h. absurd (cc), λ h. absurd (cc))
names_decide (Some a) (Some b) = (λ h. ap Some ((bytes_eq-Decides a b).0 h), λ h. (bytes_eq-Decides a b).1 (let e : a ≡ b = cc in e))

abbrev AreSame : Place → Place → Type 0
AreSame a b = (((a.item ≡ b.item) × (a.field ≡ b.field)) × (a.key ≡ b.key)) × (a.table ≡ b.table)

abbrev made_of : List ℕ → List ℕ → Option (List ℕ) → ℕ → Place
made_of table key field item = record { table = table; key = key; field = field; item = item }

same_parts : (a b : Place) → AreSame a b → a ≡ b
same_parts a b h =
    ap (λ x. made_of a.table a.key a.field x) h.0.0.0 ∙ ap (λ x. made_of a.table a.key x b.item) h.0.0.1
    ∙ ap (λ x. made_of a.table x b.field b.item) h.0.1 ∙ ap (λ x. made_of x b.key b.field b.item) h.1

parts_same : (a b : Place) → a ≡ b → AreSame a b
parts_same a b e = (((ap (λ p. p.item) e, ap (λ p. p.field) e), ap (λ p. p.key) e), ap (λ p. p.table) e)

-- places are told apart by the test
pub places_decide : (a b : Place) → Decides (is_place a b) (a ≡ b)
places_decide a b =
    Decides-like (is_place a b) (same_parts a b) (parts_same a b)
    (Decides-and (nat_eq a.item b.item && is_name a.field b.field && bytes_eq a.key b.key) (bytes_eq a.table b.table)
    (Decides-and (nat_eq a.item b.item && is_name a.field b.field) (bytes_eq a.key b.key)
    (Decides-and (nat_eq a.item b.item) (is_name a.field b.field) (Decides-eqb a.item b.item) (names_decide a.field b.field))
    (bytes_eq-Decides a.key b.key))
    (bytes_eq-Decides a.table b.table))

module _ {X : Type 0} where
  contains_behind : (x y : X) (xs : List X) → Contains xs y → Contains (x ∷ xs) y
  contains_behind x y xs h = (suc h.0, (let lt = h.1 in omega arith), h.2)

  contains_cases : (x y : X) (xs : List X) → Contains (x ∷ xs) y → (x ≡ y) ⊎ Contains xs y
  contains_cases x y xs (zero, lt, is) = inl is
  contains_cases x y xs (suc k, lt, is) = inr (k, omega arith, is)

  contains_filter : (p : X → Bool) (xs : List X) (y : X) → Contains xs y → p y ≡ true → Contains (filter p xs) y
  contains_filter p [] y h is = let lt = h.1 in absurd (omega arith)
  contains_filter p (x ∷ xs) y h is =
      elim (p x) as (λ b. p x ≡ b → Contains (cond b (x ∷ filter p xs) (filter p xs)) y) [
        | true ↦ λ e. elim (contains_cases x y xs h) [
          | inl same ↦ (0, omega arith, same)
          | inr later ↦ contains_behind x y (filter p xs) (contains_filter p xs y later is)
        ]
        | false ↦ λ e. elim (contains_cases x y xs h) [
          | inl same ↦ absurd (let passes : p x ≡ true = ap p same ∙ is in cc)
          | inr later ↦ contains_filter p xs y later is
        ]
      ] refl

  from_filter : (p : X → Bool) (xs : List X) (y : X) → Contains (filter p xs) y → Contains xs y
  from_filter p xs y h = All-contains (Contains xs) (filter p xs) y (All-filter p (Contains xs) xs (All-contains_itself xs)) h

  passes_filter : (p : X → Bool) (xs : List X) (y : X) → Contains (filter p xs) y → p y ≡ true
  passes_filter p xs y h = All-contains (λ x. p x ≡ true) (filter p xs) y (filter_passes p xs) h

module _ (p : Place) where
  abbrev has : List Place → Bool
  has ps = list_any (λ q. is_place q p) ps

  has_there : (ps : List Place) → has ps ≡ true → Contains ps p
  has_there [] h = absurd (cc)
  has_there (q ∷ qs) h =
      elim (is_place q p) as (λ b. is_place q p ≡ b → (b || has qs) ≡ true → Contains (q ∷ qs) p) [
        | true ↦ λ e _. (0, omega arith, (places_decide q p).0 e)
        | false ↦ λ e rest. contains_behind q p qs (has_there qs rest)
      ] refl h

  has_not : (ps : List Place) → has ps ≡ false → ¬ Contains ps p
  has_not [] h there = let lt = there.1 in absurd (omega arith)
  has_not (q ∷ qs) h there =
      elim (is_place q p) as (λ b. is_place q p ≡ b → (b || has qs) ≡ false → ⊥) [
        | true ↦ λ e no. cc
        | false ↦ λ e no. elim (contains_cases q p qs there) [
          | inl same ↦ not_from_Decides (is_place q p) (places_decide q p) e same
          | inr later ↦ has_not qs no later
        ]
      ] refl h

  module _ (ps : List Place) where
    -- one was there already or was put
    by_cases : (P : List Place → Type 0) → (Contains ps p → P ps) → ((¬ Contains ps p) → P (ps ++ p ∷ [])) → P (with_place p ps)
    by_cases P there put =
        elim (has ps) as (λ b. has ps ≡ b → P (cond b ps (ps ++ p ∷ []))) [ true ↦ λ e. there (has_there ps e) | false ↦ λ e. put (has_not ps e) ] refl

    pub put_more : (q : Place) → Contains (with_place p ps) q → Contains ps q ⊎ (q ≡ p)
    put_more q =
        by_cases (λ qs. Contains qs q → Contains ps q ⊎ (q ≡ p)) (λ _ h. inl h)
        (λ _ h. elim (Contains-push_cases ps p q h) [ inl was ↦ inl was | inr is ↦ inr (sym is) ])

    pub put_stays : (q : Place) → Contains ps q → Contains (with_place p ps) q
    put_stays q = by_cases (λ qs. Contains ps q → Contains qs q) (λ _ h. h) (λ _ h. Contains-append_left ps (p ∷ []) q h)

    pub put_there : Contains (with_place p ps) p
    put_there = by_cases (λ qs. Contains qs p) (λ h. h) (λ _. Contains-push ps p)

    pub put_once : AllPairs (λ a b. a ≢ b) ps → AllPairs (λ a b. a ≢ b) (with_place p ps)
    put_once once =
        by_cases (AllPairs (λ a b. a ≢ b)) (λ _. once)
        (λ absent. all_pairs_push (λ a b. a ≢ b) ps p once (λ k d h same. absent (subst (Contains ps) same (Contains-get_or ps k d h))))

    pub take_less : (q : Place) → Contains (without_place p ps) q → Contains ps q × (q ≢ p)
    take_less q h = (
      from_filter (λ r. not (is_place r p)) ps q h,
      λ same. let passes : not (is_place q p) ≡ true = passes_filter (λ r. not (is_place r p)) ps q h in
          let is : is_place q p ≡ true = (places_decide q p).1 same in
          let no : not true ≡ true = ap not (sym is) ∙ passes in
          cc,
    )

    pub take_stays : (q : Place) → Contains ps q → q ≢ p → Contains (without_place p ps) q
    take_stays q h other =
        contains_filter (λ r. not (is_place r p)) ps q h
        (elim (is_place q p) as (λ b. is_place q p ≡ b → not b ≡ true) [ true ↦ λ e. absurd (other ((places_decide q p).0 e)) | false ↦ λ _. refl ] refl)

    pub take_once : AllPairs (λ a b. a ≢ b) ps → AllPairs (λ a b. a ≢ b) (without_place p ps)
    take_once once = AllPairs-filter (λ a b. a ≢ b) (λ r. not (is_place r p)) ps once
