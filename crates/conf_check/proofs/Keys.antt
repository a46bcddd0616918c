-- Keys that begin with a text stand together in a table, whose keys rise.
use Rattle.std.proofs.Common.{◌≡◌, ◌<◌, ◌≤◌, ℕ, zero, suc, ◌==◌, Bool, true, false, cond, List, [], ◌∷◌, map, slice_get, Some, Ordering, Less, Equal, Greater, is_lt, refl, sym, ap, ◌∙◌, subst, arith}
use Rattle.std.specs.FinMap.Entries.{below_all}
use Rattle.std.specs.FinMap.{nat_cmp-IsAntisymmetric}
use Rattle.std.specs.List.{onto_first, starts_with}
use Rattle.std.specs.Ordering.{nat_cmp, ordering_then}
use Rattle.std.proofs.lemmas.Bool.{and_parts, and_from}
use Rattle.std.proofs.lemmas.Cmp.{nat_list_cmp_total, nat_cmp_total, tied_itself}
use Rattle.host_core.specs.Characters.{bar}
use Rattle.conf_doc.specs.Pairs.{first_from, IsRising}
use Rattle.host_core.specs.Names.{name_cmp}
use Rattle.key_split.specs.Key.{key_parts}

-- a key begins with a text
abbrev pub Begins : List ℕ → List ℕ → Type 0
Begins [] key = Unit {0}
Begins (x ∷ xs) [] = ⊥
Begins (x ∷ xs) (y ∷ ys) = (x ≡ y) × Begins xs ys

some_same : {A : Type 0} (x y : A) → Some x ≡ Some y → x ≡ y
some_same x y e = cc

begins_onto : (c : ℕ) (cs : List ℕ) (parts : List (List ℕ)) (text : List ℕ)
    → ((p : List ℕ) → slice_get parts 0 ≡ Some p → Begins p cs)
    → slice_get (onto_first c parts) 0 ≡ Some text → Begins text (c ∷ cs)
begins_onto c cs [] text more e =
    let P : List ℕ → Type 0 = λ t. Begins t (c ∷ cs) in subst P (some_same (c ∷ []) text e) (refl, tt)
begins_onto c cs (p ∷ ps) text more e =
    let P : List ℕ → Type 0 = λ t. Begins t (c ∷ cs) in subst P (some_same (c ∷ p) text e) (refl, more p refl)

begins_cond : (b : Bool) (c : ℕ) (cs : List ℕ) (parts : List (List ℕ)) (text : List ℕ)
    → ((p : List ℕ) → slice_get parts 0 ≡ Some p → Begins p cs)
    → slice_get (cond b ([] ∷ parts) (onto_first c parts)) 0 ≡ Some text → Begins text (c ∷ cs)
begins_cond true c cs parts text more e =
    let P : List ℕ → Type 0 = λ t. Begins t (c ∷ cs) in subst P (some_same [] text e) tt
begins_cond false c cs parts text more e = begins_onto c cs parts text more e

-- a key begins with its first part
pub begins_with_part : (key text : List ℕ) → slice_get (key_parts key) 0 ≡ Some text → Begins text key
begins_with_part [] text e =
    let P : List ℕ → Type 0 = λ t. Begins t [] in subst P (some_same [] text e) tt
begins_with_part (c ∷ cs) text e = begins_cond (c == bar) c cs (key_parts cs) text (begins_with_part cs) e

itself : (x : ℕ) → (x == x) ≡ true
itself x = grind arith

-- what `starts_with` answers of such a key
pub starts_with-begins : (text key : List ℕ) → Begins text key → starts_with (λ a b. a == b) key text ≡ true
starts_with-begins [] key begins = refl
starts_with-begins (x ∷ xs) [] begins = absurd begins
starts_with-begins (x ∷ xs) (y ∷ ys) begins =
    and_from _ _ (subst (λ z. (x == z) ≡ true) begins.0 (itself x)) (starts_with-begins xs ys begins.1)

tied : (x y : ℕ) → x ≡ y → nat_cmp y x ≡ Equal
tied x y e = subst (λ z. nat_cmp z x ≡ Equal) e (tied_itself nat_cmp_total x)

-- no key that begins with a text is below it
pub begins_not_below : (text key : List ℕ) → Begins text key → name_cmp key text ≡ Less → ⊥
begins_not_below [] [] begins lt = cc
begins_not_below [] (y ∷ ys) begins lt = cc
begins_not_below (x ∷ xs) [] begins lt = begins
begins_not_below (x ∷ xs) (y ∷ ys) begins lt =
    begins_not_below xs ys begins.1 (ap (λ c. ordering_then c (name_cmp ys xs)) (sym (tied x y begins.0)) ∙ lt)

above_by : (x z y : ℕ) (xs zs ys : List ℕ) (c : Ordering) → nat_cmp z x ≡ c → x ≡ y
    → ¬ (ordering_then (nat_cmp z x) (name_cmp zs xs) ≡ Less) → ordering_then (nat_cmp z y) (name_cmp zs ys) ≡ Less
    → (x ≡ z → ¬ (name_cmp zs xs ≡ Less) → name_cmp zs ys ≡ Less → ⊥) → ⊥
above_by x z y xs zs ys Less e same above lt more = above (ap (λ o. ordering_then o (name_cmp zs xs)) e)
above_by x z y xs zs ys Greater e same above lt more =
    let e' : nat_cmp z y ≡ Greater = subst (λ w. nat_cmp z w ≡ Greater) same e in
    let g : Greater ≡ Less = sym (ap (λ o. ordering_then o (name_cmp zs ys)) e') ∙ lt in
    cc
above_by x z y xs zs ys Equal e same above lt more =
    let e' : nat_cmp z y ≡ Equal = subst (λ w. nat_cmp z w ≡ Equal) same e in
    more (sym (nat_cmp-IsAntisymmetric z x e))
    (λ below. above (ap (λ o. ordering_then o (name_cmp zs xs)) e ∙ below))
    (sym (ap (λ o. ordering_then o (name_cmp zs ys)) e') ∙ lt)

-- a key that isn't below a text and doesn't begin with it is above all that do
pub none_begins_above : (text a b : List ℕ) → ¬ Begins text a → ¬ (name_cmp a text ≡ Less) → name_cmp a b ≡ Less → ¬ Begins text b
none_begins_above [] a b not above lt begins = not tt
none_begins_above (x ∷ xs) a [] not above lt begins = begins
none_begins_above (x ∷ xs) [] (y ∷ ys) not above lt begins = above refl
none_begins_above (x ∷ xs) (z ∷ zs) (y ∷ ys) not above lt begins =
    above_by x z y xs zs ys (nat_cmp z x) refl begins.0 above lt
    (λ is below less. none_begins_above xs zs ys (λ more. not (is, more)) below less begins.1)

less_is : (c : Ordering) → is_lt c ≡ true → c ≡ Less
less_is Less e = refl
less_is Equal e = cc
less_is Greater e = cc

module _ {A : Type 0} where
  below_at : (x : List ℕ) (ps : List (List ℕ × A)) (j : ℕ) (name : List ℕ) → below_all name_cmp x ps ≡ true
      → slice_get (map (λ p. p.0) ps) j ≡ Some name → name_cmp x name ≡ Less
  below_at x [] j name below at = cc
  below_at x (p ∷ ps) zero name below at =
      subst (λ n. name_cmp x n ≡ Less) (some_same p.0 name at) (less_is _ (and_parts _ _ below).0)
  below_at x (p ∷ ps) (suc j) name below at = below_at x ps j name (and_parts _ _ below).1 at

  -- names rise
  pub rising_at : (ps : List (List ℕ × A)) (i j : ℕ) (a b : List ℕ) → IsRising ps → i < j
      → slice_get (map (λ p. p.0) ps) i ≡ Some a → slice_get (map (λ p. p.0) ps) j ≡ Some b → name_cmp a b ≡ Less
  rising_at [] i j a b rising lt at_i at_j = cc
  rising_at (p ∷ ps) zero zero a b rising lt at_i at_j = absurd (omega arith)
  rising_at (p ∷ ps) zero (suc j) a b rising lt at_i at_j =
      subst (λ n. name_cmp n b ≡ Less) (some_same p.0 a at_i) (below_at p.0 ps j b (and_parts _ _ rising).0 at_j)
  rising_at (p ∷ ps) (suc i) zero a b rising lt at_i at_j = absurd (omega arith)
  rising_at (p ∷ ps) (suc i) (suc j) a b rising lt at_i at_j = rising_at ps i j a b (and_parts _ _ rising).1 (omega arith) at_i at_j

  before_by : (text : List ℕ) (p : List ℕ × A) (ps : List (List ℕ × A)) (j : ℕ) (name : List ℕ) (b : Bool) → is_lt (name_cmp p.0 text) ≡ b
      → ((k : ℕ) → k < first_from text ps → slice_get (map (λ p. p.0) ps) k ≡ Some name → name_cmp name text ≡ Less)
      → j < cond b (suc (first_from text ps)) 0 → slice_get (p.0 ∷ map (λ p. p.0) ps) j ≡ Some name → name_cmp name text ≡ Less
  before_by text p ps j name false e more lt at = absurd (omega arith)
  before_by text p ps zero name true e more lt at = subst (λ n. name_cmp n text ≡ Less) (some_same p.0 name at) (less_is _ e)
  before_by text p ps (suc j) name true e more lt at = more j (omega arith) at

  -- names before the first from a text are below it
  pub before_first : (text : List ℕ) (ps : List (List ℕ × A)) (j : ℕ) (name : List ℕ) → j < first_from text ps
      → slice_get (map (λ p. p.0) ps) j ≡ Some name → name_cmp name text ≡ Less
  before_first text [] j name lt at = absurd (omega arith)
  before_first text (p ∷ ps) j name lt at =
      before_by text p ps j name (is_lt (name_cmp p.0 text)) refl (λ k. before_first text ps k name) lt at

  from_by : (text : List ℕ) (p : List ℕ × A) (ps : List (List ℕ × A)) (j : ℕ) (name : List ℕ) (b : Bool) → is_lt (name_cmp p.0 text) ≡ b
      → below_all name_cmp p.0 ps ≡ true
      → ((k : ℕ) → first_from text ps ≤ k → slice_get (map (λ p. p.0) ps) k ≡ Some name → ¬ (name_cmp name text ≡ Less))
      → cond b (suc (first_from text ps)) 0 ≤ j → slice_get (p.0 ∷ map (λ p. p.0) ps) j ≡ Some name → ¬ (name_cmp name text ≡ Less)
  from_by text p ps zero name true e below more le at lt = absurd (omega arith)
  from_by text p ps (suc j) name true e below more le at lt = more j (omega arith) at lt
  from_by text p ps zero name false e below more le at lt =
      let same : p.0 ≡ name = some_same p.0 name at in
      let f : true ≡ false = sym (ap is_lt (subst (λ n. name_cmp n text ≡ Less) (sym same) lt)) ∙ e in
      cc
  from_by text p ps (suc j) name false e below more le at lt =
      let up : name_cmp p.0 name ≡ Less = below_at p.0 ps j name below at in
      let f : true ≡ false = sym (ap is_lt (nat_list_cmp_total.trans p.0 name text up lt)) ∙ e in
      cc

  -- the others are not
  pub from_first : (text : List ℕ) (ps : List (List ℕ × A)) (j : ℕ) (name : List ℕ) → IsRising ps → first_from text ps ≤ j
      → slice_get (map (λ p. p.0) ps) j ≡ Some name → ¬ (name_cmp name text ≡ Less)
  from_first text [] j name rising le at lt = cc
  from_first text (p ∷ ps) j name rising le at lt =
      from_by text p ps j name (is_lt (name_cmp p.0 text)) refl (and_parts _ _ rising).0
      (λ k. from_first text ps k name (and_parts _ _ rising).1) le at lt
