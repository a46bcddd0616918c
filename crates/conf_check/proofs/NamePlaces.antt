-- Where names stand among names.
use Rattle.std.proofs.Common.{◌≡◌, ◌+◌, ◌<◌, ◌≤◌, cond, ℕ, zero, suc, Bool, true, false, List, [], ◌∷◌, ◌++◌, Option, Some, None, option_map, map, length, slice_get, refl, sym, ap, ◌∙◌, subst, inl, inr, arith, add-one, Less, Equal}
use Rattle.std.specs.List.{position, position_from}
use Rattle.std.specs.Str.{bytes_eq}
use Rattle.std.proofs.lemmas.Bool.{cases_lt}
use Rattle.std.proofs.lemmas.Cmp.{nat_list_cmp_total, tied_itself}
use Rattle.std.proofs.lemmas.Iterator.Adapters.{position_from-zero}
use Rattle.std.proofs.lemmas.List.{length-map, map-id}
use Rattle.std.proofs.lemmas.Option.{slice_get_within}
use Rattle.std.proofs.lemmas.Slice.Eq.{bytes_eq-Decides}
use Rattle.conf_doc.specs.Pairs.{first_from, IsRising}
use Rattle.host_core.specs.Names.{name_cmp}
use Rattle.yang_model.specs.Names.{place_of_name}
use Rattle.yang_model.specs.declared.shapes.FieldRule.{FieldRule}
use Rattle.yang_model.specs.declared.shapes.KeyLeaf.{KeyLeaf}
use Rattle.conf_check.proofs.Keys.{before_first, from_first, rising_at}

some_same : {A : Type 0} (x y : A) → Some x ≡ Some y → x ≡ y
some_same x y e = cc

shifted_by : (b : Bool) (i : ℕ) (o p : Option ℕ) → o ≡ option_map suc p → cond b (Some (i + 1)) o ≡ option_map suc (cond b (Some i) p)
shifted_by true i o p e = ap Some (add-one i)
shifted_by false i o p e = e

shifted : {A : Type 0} (t : A → Bool) (i : ℕ) (xs : List A) → position_from t (i + 1) xs ≡ option_map suc (position_from t i xs)
shifted t i [] = refl
shifted t i (x ∷ xs) = shifted_by (t x) i (position_from t (i + 1 + 1) xs) (position_from t (i + 1) xs) (shifted t (i + 1) xs)

place_from_zero : {A : Type 0} (f : A → List ℕ) (name : List ℕ) (xs : List A) → place_of_name name (map f xs) ≡ position_from (λ x. bytes_eq name (f x)) 0 xs
place_from_zero f name [] = refl
place_from_zero f name (x ∷ xs) =
    ap (λ o. cond (bytes_eq name (f x)) (Some 0) o) (ap (option_map suc) (place_from_zero f name xs) ∙ sym (shifted (λ x. bytes_eq name (f x)) 0 xs))

-- the first of a name among what has names
pub place_is_position : {A : Type 0} (f : A → List ℕ) (name : List ℕ) (xs : List A) → position (λ x. bytes_eq name (f x)) xs ≡ place_of_name name (map f xs)
place_is_position f name xs = position_from-zero (λ x. bytes_eq name (f x)) xs ∙ sym (place_from_zero f name xs)

-- a place in the second of two lists
abbrev after_first : ℕ → Option ℕ → Option ℕ → Option ℕ
after_first n None p = option_map (λ i. n + i) p
after_first n (Some i) p = Some i

after_first-suc : (n : ℕ) (t : Bool) (o p : Option ℕ) → cond t (Some 0) (option_map suc (after_first n o p)) ≡ after_first (suc n) (cond t (Some 0) (option_map suc o)) p
after_first-suc n true o p = refl
after_first-suc n false None None = refl
after_first-suc n false None (Some i) = let e : suc (n + i) ≡ suc n + i = omega arith in ap Some e
after_first-suc n false (Some j) p = refl

after_first-zero : (p : Option ℕ) → p ≡ after_first 0 None p
after_first-zero None = refl
after_first-zero (Some i) = let e : i ≡ 0 + i = omega arith in ap Some e

pub place_in_two : (name : List ℕ) (xs ys : List (List ℕ)) → place_of_name name (xs ++ ys) ≡ after_first (length xs) (place_of_name name xs) (place_of_name name ys)
place_in_two name [] ys = after_first-zero (place_of_name name ys)
place_in_two name (x ∷ xs) ys =
    ap (λ o. cond (bytes_eq name x) (Some 0) (option_map suc o)) (place_in_two name xs ys)
    ∙ after_first-suc (length xs) (bytes_eq name x) (place_of_name name xs) (place_of_name name ys)

decided : (b : Bool) {P : Type 0} → ((b ≡ true → P) × (P → b ≡ true)) → ¬ P → b ≡ false
decided true d not = absurd (not (d.0 refl))
decided false d not = refl

module _ (name : List ℕ) where
  abbrev pub IsElsewhere : List (List ℕ) → ℕ → Type 0
  IsElsewhere names i = (j : ℕ) (n : List ℕ) → j < i → slice_get names j ≡ Some n → ¬ (n ≡ name)

  differs : (n : List ℕ) → ¬ (n ≡ name) → bytes_eq name n ≡ false
  differs n not = decided (bytes_eq name n) (bytes_eq-Decides name n) (λ e. not (sym e))

  -- the first of a name
  pub place_found : (names : List (List ℕ)) (i : ℕ) → slice_get names i ≡ Some name → IsElsewhere names i → place_of_name name names ≡ Some i
  place_found [] i at none = cc
  place_found (n ∷ names) zero at none =
      ap (λ b. cond b (Some 0) (option_map suc (place_of_name name names))) ((bytes_eq-Decides name n).1 (sym (some_same n name at)))
  place_found (n ∷ names) (suc i) at none =
      ap (λ b. cond b (Some 0) (option_map suc (place_of_name name names))) (differs n (none 0 n (omega arith) refl))
      ∙ ap (option_map suc) (place_found names i at (λ j m lt here. none (suc j) m (omega arith) here))

  -- none of a name
  pub place_absent : (names : List (List ℕ)) → IsElsewhere names (length names) → place_of_name name names ≡ None
  place_absent [] none = refl
  place_absent (n ∷ names) none =
      ap (λ b. cond b (Some 0) (option_map suc (place_of_name name names))) (differs n (none 0 n (omega arith) refl))
      ∙ ap (option_map suc) (place_absent names (λ j m lt here. none (suc j) m (omega arith) here))

  holds_by : (b : Bool) (n : List ℕ) (names : List (List ℕ)) (o : Option ℕ) (i : ℕ) → bytes_eq name n ≡ b → cond b (Some 0) (option_map suc o) ≡ Some i
      → ((j : ℕ) → o ≡ Some j → slice_get names j ≡ Some name) → slice_get (n ∷ names) i ≡ Some name
  holds_by true n names o i is e more =
      let z : 0 ≡ i = some_same 0 i e in
      subst (λ k. slice_get (n ∷ names) k ≡ Some name) z (ap Some (sym ((bytes_eq-Decides name n).0 is)))
  holds_by false n names None i is e more = cc
  holds_by false n names (Some j) i is e more =
      let z : suc j ≡ i = some_same (suc j) i e in
      subst (λ k. slice_get (n ∷ names) k ≡ Some name) z (more j refl)

  -- what stands at the place has the name
  pub place_holds : (names : List (List ℕ)) (i : ℕ) → place_of_name name names ≡ Some i → slice_get names i ≡ Some name
  place_holds [] i e = cc
  place_holds (n ∷ names) i e = holds_by (bytes_eq name n) n names (place_of_name name names) i refl e (place_holds names)

-- the table of a name, by the first that isn't below it
module _ {A : Type 0} (name : List ℕ) (ps : List (List ℕ × A)) where
  abbrev names : List (List ℕ)
  names = map (λ p. p.0) ps

  not_below_itself : (n : List ℕ) → n ≡ name → name_cmp n name ≡ Less → ⊥
  not_below_itself n same lt =
      let t : name_cmp name name ≡ Equal = tied_itself nat_list_cmp_total name in
      let l : name_cmp name name ≡ Less = subst (λ m. name_cmp m name ≡ Less) same lt in
      cc

  none_before : (i : ℕ) → i ≡ first_from name ps → IsElsewhere name names i
  none_before i is j n lt at same =
      not_below_itself n same (before_first name ps j n (subst (λ k. j < k) is lt) at)

  pub here_found : (i : ℕ) (n : List ℕ) → i ≡ first_from name ps → slice_get names i ≡ Some n → n ≡ name → Some i ≡ place_of_name name names
  here_found i n is at same =
      sym (place_found name names i (at ∙ ap Some same) (none_before i is))

  pub past_absent : (i : ℕ) → i ≡ first_from name ps → length ps ≤ i → None ≡ place_of_name name names
  past_absent i is past =
      sym (place_absent name names (λ j n lt at same. none_before i is j n (omega (arith, slice_get_within names j n at, length-map ps (λ p. p.0))) at same))

  pub other_absent : (i : ℕ) (n : List ℕ) → i ≡ first_from name ps → IsRising ps → slice_get names i ≡ Some n → ¬ (n ≡ name) → None ≡ place_of_name name names
  other_absent i n is rising at not =
      sym (place_absent name names (λ j m lt at_j same. elsewhere j m at_j same))
    where
      elsewhere : (j : ℕ) (m : List ℕ) → slice_get names j ≡ Some m → m ≡ name → ⊥
      elsewhere j m at_j same =
          elim (cases_lt j i) [
            | inl less ↦ none_before i is j m less at_j same
            | inr more ↦ elim (cases_lt i j) [
              | inl behind ↦
                  from_first name ps i n rising (omega (arith, is)) at
                  (subst (λ k. name_cmp n k ≡ Less) same (rising_at ps i j n m rising behind at at_j))
              | inr eq ↦
                  let e : j ≡ i = omega arith in
                  let s : Some m ≡ Some n = sym (subst (λ k. slice_get names k ≡ Some m) e at_j) ∙ at in
                  let q : m ≡ n = cc in
                  not (sym q ∙ same)
            ]
          ]

-- a name among key leaves and then fields
module _ (name : List ℕ) (keys : List KeyLeaf) (fields : List FieldRule) where
  abbrev key_place : Option ℕ
  key_place = position (λ (k : KeyLeaf). bytes_eq name k.name) keys

  abbrev field_place : Option ℕ
  field_place = position (λ (f : FieldRule). bytes_eq name f.name) fields

  abbrev key_names : List (List ℕ)
  key_names = map (λ (k : KeyLeaf). k.name) keys

  abbrev both_names : List (List ℕ)
  both_names = key_names ++ map (λ (f : FieldRule). f.name) fields

  both_place : (o p : Option ℕ) → o ≡ key_place → p ≡ field_place → place_of_name name both_names ≡ after_first (length keys) o p
  both_place o p at_key at_field =
      place_in_two name key_names (map (λ (f : FieldRule). f.name) fields)
      ∙ ap (λ n. after_first n (place_of_name name key_names) (place_of_name name (map (λ (f : FieldRule). f.name) fields))) (length-map keys (λ (k : KeyLeaf). k.name))
      ∙ ap (λ o. after_first (length keys) o (place_of_name name (map (λ (f : FieldRule). f.name) fields))) (sym (at_key ∙ place_is_position (λ (k : KeyLeaf). k.name) name keys))
      ∙ ap (after_first (length keys) o) (sym (at_field ∙ place_is_position (λ (f : FieldRule). f.name) name fields))

  pub among_keys : (i : ℕ) → Some i ≡ key_place → Some i ≡ place_of_name name both_names
  among_keys i at = sym (both_place (Some i) field_place at refl)

  pub among_fields : (i : ℕ) → None ≡ key_place → Some i ≡ field_place → Some (length keys + i) ≡ place_of_name name both_names
  among_fields i none at = sym (both_place None (Some i) none at)

  pub among_none : None ≡ key_place → None ≡ field_place → None ≡ place_of_name name both_names
  among_none none nor = sym (both_place None None none nor)

-- a module by its name
pub name_placed : (name : List ℕ) (names : List (List ℕ)) (o : Option ℕ) → o ≡ position (bytes_eq name) names → o ≡ place_of_name name names
name_placed name names o is = is ∙ place_is_position (λ n. n) name names ∙ ap (place_of_name name) (map-id names)
