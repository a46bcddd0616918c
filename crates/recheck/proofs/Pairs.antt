-- Lists of pairs whose names rise, by place.
use Rattle.std.proofs.Common.{◌≡◌, ◌<◌, ℕ, zero, suc, true, cond, List, [], ◌∷◌, map, length, Some, slice_get, Contains, Less, Equal, Greater, Ordering, is_eq, is_lt, refl, sym, ap, ◌∙◌, subst, inl, inr, arith}
use Rattle.std.specs.FinMap.Entries.{below_all}
use Rattle.std.proofs.lemmas.Bool.{and_parts, cases_lt}
use Rattle.std.proofs.lemmas.Cmp.{nat_list_cmp_total, tied_itself}
use Rattle.std.proofs.lemmas.Option.{get_or_from_slice_get, slice_get_read, slice_get_within}
use Rattle.host_core.specs.Names.{name_cmp}
use Rattle.conf_doc.specs.Pairs.{find, IsRising}
use Rattle.conf_doc.proofs.Edits.{find_at, same_name}

pub some_same : {A : Type 0} (x y : A) → Some x ≡ Some y → x ≡ y
some_same x y e = cc

-- what an item of a list is
pub contains_at : {A : Type 0} (xs : List A) (i : ℕ) (x : A) → slice_get xs i ≡ Some x → Contains xs x
contains_at xs i x at = (i, slice_get_within xs i x at, get_or_from_slice_get xs i x x at)

pub at_contained : {A : Type 0} (xs : List A) (x : A) → (there : Contains xs x) → slice_get xs there.0 ≡ Some x
at_contained xs x there = slice_get_read xs (length xs) there.0 x refl there.1 (sym there.2)

-- ---- pairs by their sides

pub pair_at : {A B : Type 0} (ps : List (A × B)) (i : ℕ) (a : A) (b : B) → slice_get (map (λ p. p.0) ps) i ≡ Some a
    → slice_get (map (λ p. p.1) ps) i ≡ Some b → slice_get ps i ≡ Some (a, b)
pair_at [] i a b left right = cc
pair_at (p ∷ ps) zero a b left right =
    let l : p.0 ≡ a = some_same p.0 a left in
    let r : p.1 ≡ b = some_same p.1 b right in
    λ j. Some (l j, r j)
pair_at (p ∷ ps) (suc i) a b left right = pair_at ps i a b left right

pub left_at : {A B : Type 0} (ps : List (A × B)) (i : ℕ) (p : A × B) → slice_get ps i ≡ Some p → slice_get (map (λ p. p.0) ps) i ≡ Some p.0
left_at [] i p at = cc
left_at (q ∷ ps) zero p at = ap (λ (r : _). Some r.0) (some_same q p at)
left_at (q ∷ ps) (suc i) p at = left_at ps i p at

pub right_at : {A B : Type 0} (ps : List (A × B)) (i : ℕ) (p : A × B) → slice_get ps i ≡ Some p → slice_get (map (λ p. p.1) ps) i ≡ Some p.1
right_at [] i p at = cc
right_at (q ∷ ps) zero p at = ap (λ (r : _). Some r.1) (some_same q p at)
right_at (q ∷ ps) (suc i) p at = right_at ps i p at

pub holder_at : {A B : Type 0} (ps : List (A × B)) (i : ℕ) (a : A) → slice_get (map (λ p. p.0) ps) i ≡ Some a → (b : B) × (slice_get ps i ≡ Some (a, b))
holder_at [] i a at = cc
holder_at (p ∷ ps) zero a at = (p.1, let l : p.0 ≡ a = some_same p.0 a at in λ j. Some (l j, p.1))
holder_at (p ∷ ps) (suc i) a at = holder_at ps i a at

-- ---- names that rise

pub less_is : (c : Ordering) → is_lt c ≡ true → c ≡ Less
less_is Less e = refl
less_is Equal e = cc
less_is Greater e = cc

module _ {A : Type 0} where
  below_at : (x : List ℕ) (ps : List (List ℕ × A)) (j : ℕ) (name : List ℕ) → below_all name_cmp x ps ≡ true
      → slice_get (map (λ p. p.0) ps) j ≡ Some name → name_cmp x name ≡ Less
  below_at x [] j name below at = cc
  below_at x (p ∷ ps) zero name below at =
      subst (λ n. name_cmp x n ≡ Less) (some_same p.0 name at) (less_is _ (and_parts _ _ below).0)
  below_at x (p ∷ ps) (suc j) name below at = below_at x ps j name (and_parts _ _ below).1 at

  rising_at : (ps : List (List ℕ × A)) (i j : ℕ) (a b : List ℕ) → IsRising ps → i < j
      → slice_get (map (λ p. p.0) ps) i ≡ Some a → slice_get (map (λ p. p.0) ps) j ≡ Some b → name_cmp a b ≡ Less
  rising_at [] i j a b rising lt at_i at_j = cc
  rising_at (p ∷ ps) zero zero a b rising lt at_i at_j = absurd (omega arith)
  rising_at (p ∷ ps) zero (suc j) a b rising lt at_i at_j =
      subst (λ n. name_cmp n b ≡ Less) (some_same p.0 a at_i) (below_at p.0 ps j b (and_parts _ _ rising).0 at_j)
  rising_at (p ∷ ps) (suc i) zero a b rising lt at_i at_j = absurd (omega arith)
  rising_at (p ∷ ps) (suc i) (suc j) a b rising lt at_i at_j = rising_at ps i j a b (and_parts _ _ rising).1 (omega arith) at_i at_j

  not_twice : (ps : List (List ℕ × A)) (i j : ℕ) (name : List ℕ) → IsRising ps → i < j
      → slice_get (map (λ p. p.0) ps) i ≡ Some name → slice_get (map (λ p. p.0) ps) j ≡ Some name → ⊥
  not_twice ps i j name rising lt at_i at_j =
      let less = rising_at ps i j name name rising lt at_i at_j in
      let tied : name_cmp name name ≡ Equal = tied_itself nat_list_cmp_total name in
      cc

  -- a name occurs once
  pub stands_once : (ps : List (List ℕ × A)) (i j : ℕ) (name : List ℕ) → IsRising ps
      → slice_get (map (λ p. p.0) ps) i ≡ Some name → slice_get (map (λ p. p.0) ps) j ≡ Some name → i ≡ j
  stands_once ps i j name rising at_i at_j =
      elim (cases_lt i j) [
        | inl less ↦ absurd (not_twice ps i j name rising less at_i at_j)
        | inr more ↦ elim (cases_lt j i) [ inl less ↦ absurd (not_twice ps j i name rising less at_j at_i) | inr le ↦ omega arith ]
      ]

  -- what stands at a place is found by its name
  pub found_at : (ps : List (List ℕ × A)) (name : List ℕ) (i : ℕ) (a : A) → IsRising ps → slice_get ps i ≡ Some (name, a) → find name ps ≡ Some a
  found_at ps name i a rising at = find_at ps name i rising (left_at ps i (name, a) at) ∙ right_at ps i (name, a) at

  there_by : (p : List ℕ × A) (ps : List (List ℕ × A)) (name : List ℕ) (a : A) (o : Ordering) → name_cmp name p.0 ≡ o → cond (is_eq o) (Some p.1) (find name ps) ≡ Some a
      → (find name ps ≡ Some a → (i : ℕ) × (slice_get ps i ≡ Some (name, a))) → (i : ℕ) × (slice_get (p ∷ ps) i ≡ Some (name, a))
  there_by p ps name a Equal is e more =
      let n : p.0 ≡ name = sym (same_name name p.0 is) in
      let x : p.1 ≡ a = some_same p.1 a e in
      (0, λ j. Some (n j, x j))
  there_by p ps name a Less is e more = let m = more e in (suc m.0, m.1)
  there_by p ps name a Greater is e more = let m = more e in (suc m.0, m.1)

  -- what is found stands at a place
  pub found_there : (ps : List (List ℕ × A)) (name : List ℕ) (a : A) → find name ps ≡ Some a → (i : ℕ) × (slice_get ps i ≡ Some (name, a))
  found_there [] name a e = cc
  found_there (p ∷ ps) name a e = there_by p ps name a (name_cmp name p.0) refl e (found_there ps name a)
