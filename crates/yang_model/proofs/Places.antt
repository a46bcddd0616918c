-- The place of a name in a list that grows.
use Rattle.std.proofs.Common.{◌≡◌, ℕ, Bool, true, false, cond, List, [], ◌∷◌, ◌++◌, length, Option, Some, None, suc, ◌<◌, map, option_map, slice_get, is_some, inl, inr, ◌⊎◌, refl, sym, ap, ◌∙◌, arith}
use Rattle.std.specs.List.{find}
use Rattle.std.specs.Str.{bytes_eq}
use Rattle.std.specs.Global.{Global}
use Rattle.std.specs.BTreeMap.{BTreeMap, get_by_text}
use Rattle.std.specs.Prelude.{String}
use Rattle.std.specs.Map.{update}
use Rattle.std.proofs.lemmas.Bool.{false≢true}
use Rattle.std.proofs.lemmas.Slice.Eq.{bytes_eq-Decides}
use Rattle.yang_faults.proofs.NameSequences.{bytes_eq-swap}
use Rattle.yang_model.specs.Names.{IsIndexOf, place_of_name}

abbrev or_else : {X : Type 0} → Option X → Option X → Option X
or_else None o = o
or_else (Some x) o = Some x

or_else-step : (b c : Bool) (o : Option ℕ) (n : ℕ)
    → cond b (Some 0) (option_map suc (or_else o (cond c (Some n) None))) ≡ or_else (cond b (Some 0) (option_map suc o)) (cond c (Some (suc n)) None)
or_else-step true c o n = refl
or_else-step false c (Some x) n = refl
or_else-step false true None n = refl
or_else-step false false None n = refl

place_of_name-push : (q : List ℕ) (names : List (List ℕ)) (name : List ℕ)
    → place_of_name q (names ++ name ∷ []) ≡ or_else (place_of_name q names) (cond (bytes_eq q name) (Some (length names)) None)
place_of_name-push q [] name = refl
place_of_name-push q (n ∷ names) name =
    ap (λ o. cond {A = Option ℕ} (bytes_eq q n) (Some 0) (option_map suc o)) (place_of_name-push q names name)
    ∙ or_else-step (bytes_eq q n) (bytes_eq q name) (place_of_name q names) (length names)

bytes_eq-same : (q name : List ℕ) → bytes_eq q name ≡ true → q ≡ name
bytes_eq-same q name = (bytes_eq-Decides q name).0

keeps : (o : Option ℕ) (r : Option ℕ) (b : Bool) → (b ≡ true → is_some o ≡ true) → o ≡ or_else o (cond b r None)
keeps (Some x) r b there = refl
keeps None r true there = absurd (false≢true (there refl))
keeps None r false there = refl

takes : (a b : Bool) (o : Option ℕ) (m n : ℕ) → a ≡ b → (b ≡ true → is_some o ≡ false) → m ≡ n → cond a (Some m) o ≡ or_else o (cond b (Some n) None)
takes a true (Some x) m n same absent is = absurd (false≢true (sym (absent refl)))
takes a false (Some x) m n same absent is = rw same refl
takes a true None m n same absent is = rw (same, is) refl
takes a false None m n same absent is = rw same refl

-- a name that is there already
pub IsIndexOf-again : (places : BTreeMap (String Global) ℕ) (names : List (List ℕ)) (name : List ℕ)
    → is_some (get_by_text places name) ≡ true → IsIndexOf places names → IsIndexOf places (names ++ name ∷ [])
IsIndexOf-again places names name there index = record {
  found = λ q.
      index.found q
      ∙ keeps (place_of_name q names) (Some (length names)) (bytes_eq q name)
      (λ e. ap is_some (sym (index.found q)) ∙ ap (λ n. is_some (get_by_text places n)) (bytes_eq-same q name e) ∙ there)
      ∙ sym (place_of_name-push q names name);
}

-- a new name
pub IsIndexOf-next : (old new : BTreeMap (String Global) ℕ) (names : List (List ℕ)) (name : List ℕ) (place : ℕ)
    → is_some (get_by_text old name) ≡ false → ((q : List ℕ) → get_by_text new q ≡ update bytes_eq (get_by_text old) name (Some place) q)
    → IsIndexOf old names → length names ≡ place → IsIndexOf new (names ++ name ∷ [])
IsIndexOf-next old new names name place absent updates index is = record {
  found = λ q.
      updates q
      ∙ ap (λ o. cond (bytes_eq name q) (Some place) o) (index.found q)
      ∙ takes (bytes_eq name q) (bytes_eq q name) (place_of_name q names) place (length names) (bytes_eq-swap name q)
      (λ e. ap is_some (sym (index.found q)) ∙ ap (λ n. is_some (get_by_text old n)) (bytes_eq-same q name e) ∙ absent)
      (sym is)
      ∙ sym (place_of_name-push q names name);
}

-- what stands at the place of a name is the first of that name
module _ {X : Type 0} (name_of : X → List ℕ) (name : List ℕ) where
  some_step : (b : Bool) (o : Option ℕ) (i : ℕ) → Some i ≡ cond b (Some 0) (option_map suc o) → ((b ≡ true) × (i ≡ 0)) ⊎ ((b ≡ false) × ((j : ℕ) × (i ≡ suc j) × (Some j ≡ o)))
  some_step true o i is = inl (refl, cc)
  some_step false (Some j) i is = inr (refl, (j, cc, refl))
  some_step false None i is = absurd (cc)

  none_step : (b : Bool) (o : Option ℕ) → None ≡ cond b (Some 0) (option_map suc o) → (b ≡ false) × (None ≡ o)
  none_step true o is = absurd (cc)
  none_step false (Some j) is = absurd (cc)
  none_step false None is = (refl, refl)

  pub place_within : (xs : List X) (i : ℕ) → Some i ≡ place_of_name name (map name_of xs) → i < length xs
  place_within [] i is = absurd (cc)
  place_within (x ∷ xs) i is =
      elim (some_step (bytes_eq name (name_of x)) (place_of_name name (map name_of xs)) i is) [
        | inl h ↦ omega (arith, h.1)
        | inr h ↦ omega (arith, h.1.1, place_within xs h.1.0 h.1.2)
      ]

  pub find_at_place : (xs : List X) (i : ℕ) (x : X) → Some i ≡ place_of_name name (map name_of xs) → slice_get xs i ≡ Some x → find (λ y. bytes_eq name (name_of y)) xs ≡ Some x
  find_at_place [] i x is at = absurd (cc)
  find_at_place (y ∷ xs) i x is at =
      elim (some_step (bytes_eq name (name_of y)) (place_of_name name (map name_of xs)) i is) [
        | inl h ↦ ap (λ b. cond b (Some y) (find (λ z. bytes_eq name (name_of z)) xs)) h.0 ∙ (rw h.1 at at)
        | inr h ↦ ap (λ b. cond b (Some y) (find (λ z. bytes_eq name (name_of z)) xs)) h.0 ∙ find_at_place xs h.1.0 x h.1.2 (rw h.1.1 at at)
      ]

  pub find_no_place : (xs : List X) → None ≡ place_of_name name (map name_of xs) → find (λ y. bytes_eq name (name_of y)) xs ≡ None
  find_no_place [] is = refl
  find_no_place (y ∷ xs) is =
      let h = none_step (bytes_eq name (name_of y)) (place_of_name name (map name_of xs)) is in
      ap (λ b. cond b (Some y) (find (λ z. bytes_eq name (name_of z)) xs)) h.0 ∙ find_no_place xs h.1
