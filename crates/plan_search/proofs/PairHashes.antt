-- Hashes of pairs joined by xor: what they become where one pair is put, changed or left out.
use Rattle.std.proofs.Common.{◌≡◌, ℕ, Bool, true, false, cond, not, ◌&&◌, List, [], ◌∷◌, Option, Some, None, Ordering, Less, Equal, Greater, is_lt, is_eq, zero, suc, ◌+◌, ◌≤◌, add-one, drop, length, map, slice_get, refl, sym, ap, ◌∙◌, subst}
use Rattle.std.specs.Prelude.{bit_xor}
use Rattle.std.specs.FinMap.Entries.{by_order, below_all, find-put, find-where_key}
use Rattle.std.specs.Int.Bits.{xor_assoc, xor_self, xor_zero_l, xor_zero_r}
use Rattle.std.specs.Option.{option_map_or}
use Rattle.std.specs.Ordering.{eq_by_cmp}
use Rattle.std.specs.Cmp.Lexicographic.{nat_list_cmp_total}
use Rattle.std.proofs.lemmas.Bool.{and_parts}
use Rattle.std.proofs.lemmas.Cmp.{tied_itself}
use Rattle.std.proofs.lemmas.List.{drop_all}
use Rattle.std.proofs.lemmas.Nat.{xor_comm}
use Rattle.host_core.specs.Names.{name_cmp}
use Rattle.conf_doc.specs.Pairs.{IsRising, change_part, find, put, without}
use Rattle.conf_doc.proofs.Edits.{less, same_name, same_Some}
use Rattle.plan_search.specs.Hashes.{hash_at, joined}

-- ---- xor

-- the first and the last change places
swapped : (a b c : ℕ) → bit_xor (bit_xor a b) c ≡ bit_xor (bit_xor c b) a
swapped a b c =
    xor_comm (bit_xor a b) c ∙ ap (bit_xor c) (xor_comm a b) ∙ sym (xor_assoc c b a)

-- the last two change places
turned_last : (a b c : ℕ) → bit_xor (bit_xor a b) c ≡ bit_xor (bit_xor a c) b
turned_last a b c = xor_assoc a b c ∙ ap (bit_xor a) (xor_comm b c) ∙ sym (xor_assoc a c b)

-- what is joined twice is gone
pub joined_twice : (a b : ℕ) → bit_xor (bit_xor a b) b ≡ a
joined_twice a b = xor_assoc a b b ∙ ap (bit_xor a) (xor_self b) ∙ xor_zero_r a

across : (w v a h : ℕ) → bit_xor v a ≡ bit_xor w h → bit_xor w a ≡ bit_xor v h
across w v a h e =
    ap (λ x. bit_xor x a) (sym (joined_twice w h)) ∙ ap (λ x. bit_xor (bit_xor x h) a) (sym e)
    ∙ turned_last (bit_xor v a) h a ∙ ap (λ x. bit_xor x h) (joined_twice v a)

cancelled : (w t a : ℕ) → bit_xor (bit_xor w t) (bit_xor t a) ≡ bit_xor w a
cancelled w t a = sym (xor_assoc (bit_xor w t) t a) ∙ ap (λ x. bit_xor x a) (joined_twice w t)

-- what changes by as much as something within it changes
through : (w v t u a b : ℕ) → bit_xor w t ≡ bit_xor v u → bit_xor t a ≡ bit_xor u b → bit_xor w a ≡ bit_xor v b
through w v t u a b e f =
    sym (cancelled w t a) ∙ ap (λ x. bit_xor x (bit_xor t a)) e ∙ ap (bit_xor (bit_xor v u)) f ∙ cancelled v u b

-- ---- what is found

itself : (x : List ℕ) → name_cmp x x ≡ Equal
itself x = tied_itself nat_list_cmp_total x

is_less : (c : Ordering) → c ≡ Less → is_lt c ≡ true
is_less c e = ap is_lt e

both_true : (a b : Bool) → a ≡ true → b ≡ true → (a && b) ≡ true
both_true true b p q = q
both_true false b p q = p

module _ {A : Type 0} where
  -- a name below one is below all that stand above that one
  below_less : (x y : List ℕ) (ps : List (List ℕ × A)) → name_cmp x y ≡ Less → below_all name_cmp y ps ≡ true → below_all name_cmp x ps ≡ true
  below_less x y [] lt below = refl
  below_less x y (p ∷ ps) lt below =
      let parts = and_parts _ _ below in
      both_true _ _ (is_less _ (nat_list_cmp_total.trans x y p.0 lt (less _ parts.0))) (below_less x y ps lt parts.1)

  -- a name below all isn't there
  found_below : (name : List ℕ) (ps : List (List ℕ × A)) → below_all name_cmp name ps ≡ true → find name ps ≡ None
  found_below name [] below = refl
  found_below name (p ∷ ps) below =
      ap (λ c. cond (is_eq c) (Some p.1) (find name ps)) (less _ (and_parts _ _ below).0)
      ∙ found_below name ps (and_parts _ _ below).1

  pub found_put : (name : List ℕ) (a : A) (ps : List (List ℕ × A)) → find name (put name a ps) ≡ Some a
  found_put name a ps =
      find-put name_cmp nat_list_cmp_total name name a ps ∙ ap (λ c. cond (is_eq c) (Some a) (find name ps)) (itself name)

  found_without : (name : List ℕ) (ps : List (List ℕ × A)) → find name (without name ps) ≡ None
  found_without name ps =
      find-where_key name_cmp (λ n. not (eq_by_cmp name_cmp name n)) name alike ps
      ∙ ap (λ c. cond (not (is_eq c)) (find name ps) None) (itself name)
    where
      alike : (x : List ℕ) → name_cmp name x ≡ Equal → not (eq_by_cmp name_cmp name x) ≡ not (eq_by_cmp name_cmp name name)
      alike x e = ap (λ n. not (eq_by_cmp name_cmp name n)) (sym (same_name name x e))

-- ---- what is joined

module _ {A : Type 0} (hash : List ℕ → A → ℕ) where
  at_none : (name : List ℕ) (ps : List (List ℕ × A)) → find name ps ≡ None → hash_at hash name ps ≡ 0
  at_none name ps none = ap (λ o. option_map_or (hash name) o 0) none

  pub at_some : (name : List ℕ) (a : A) (ps : List (List ℕ × A)) → find name ps ≡ Some a → hash_at hash name ps ≡ hash name a
  at_some name a ps is = ap (λ o. option_map_or (hash name) o 0) is

  -- ---- a pair put

  put_first : (name : List ℕ) (a : A) (ps : List (List ℕ × A)) (w : ℕ) → find name ps ≡ None
      → bit_xor (bit_xor (hash name a) w) (hash_at hash name ps) ≡ bit_xor w (hash name a)
  put_first name a ps w none =
      ap (bit_xor (bit_xor (hash name a) w)) (at_none name ps none)
      ∙ xor_zero_r (bit_xor (hash name a) w) ∙ xor_comm (hash name a) w

  abbrev Puts : List ℕ → A → List ℕ × A → List (List ℕ × A) → Ordering → Type 0
  Puts name a p ps c =
      bit_xor (joined hash (by_order c ((name, a) ∷ p ∷ ps) ((p.0, a) ∷ ps) (p ∷ put name a ps)))
      (option_map_or (hash name) (cond (is_eq c) (Some p.1) (find name ps)) 0)
      ≡ bit_xor (bit_xor (hash p.0 p.1) (joined hash ps)) (hash name a)

  put_by : (name : List ℕ) (a : A) (p : List ℕ × A) (ps : List (List ℕ × A)) → below_all name_cmp p.0 ps ≡ true
      → bit_xor (joined hash (put name a ps)) (hash_at hash name ps) ≡ bit_xor (joined hash ps) (hash name a)
      → (c : Ordering) → name_cmp name p.0 ≡ c → Puts name a p ps c
  put_by name a p ps below rest Less e =
      put_first name a ps (bit_xor (hash p.0 p.1) (joined hash ps)) (found_below name ps (below_less name p.0 ps e below))
  put_by name a p ps below rest Equal e =
      subst (λ n. bit_xor (bit_xor (hash n a) (joined hash ps)) (hash name p.1) ≡ bit_xor (bit_xor (hash n p.1) (joined hash ps)) (hash name a))
      (same_name name p.0 e) (swapped (hash name a) (joined hash ps) (hash name p.1))
  put_by name a p ps below rest Greater e =
      xor_assoc (hash p.0 p.1) (joined hash (put name a ps)) (hash_at hash name ps) ∙ ap (bit_xor (hash p.0 p.1)) rest
      ∙ sym (xor_assoc (hash p.0 p.1) (joined hash ps) (hash name a))

  put_joins : (name : List ℕ) (a : A) (ps : List (List ℕ × A)) → IsRising ps
      → bit_xor (joined hash (put name a ps)) (hash_at hash name ps) ≡ bit_xor (joined hash ps) (hash name a)
  put_joins name a [] rising = put_first name a [] 0 refl
  put_joins name a (p ∷ ps) rising =
      let parts = and_parts _ _ rising in
      put_by name a p ps parts.0 (put_joins name a ps parts.1) (name_cmp name p.0) refl

  -- ---- a name left out

  abbrev LeavesOut : List ℕ → List ℕ × A → List (List ℕ × A) → Ordering → Type 0
  LeavesOut name p ps c =
      bit_xor (joined hash (cond (not (is_eq c)) (p ∷ without name ps) (without name ps)))
      (option_map_or (hash name) (cond (is_eq c) (Some p.1) (find name ps)) 0)
      ≡ bit_xor (hash p.0 p.1) (joined hash ps)

  kept_first : (name : List ℕ) (p : List ℕ × A) (ps : List (List ℕ × A))
      → bit_xor (joined hash (without name ps)) (hash_at hash name ps) ≡ joined hash ps
      → bit_xor (bit_xor (hash p.0 p.1) (joined hash (without name ps))) (hash_at hash name ps) ≡ bit_xor (hash p.0 p.1) (joined hash ps)
  kept_first name p ps rest =
      xor_assoc (hash p.0 p.1) (joined hash (without name ps)) (hash_at hash name ps) ∙ ap (bit_xor (hash p.0 p.1)) rest

  without_by : (name : List ℕ) (p : List ℕ × A) (ps : List (List ℕ × A)) → below_all name_cmp p.0 ps ≡ true
      → bit_xor (joined hash (without name ps)) (hash_at hash name ps) ≡ joined hash ps
      → (c : Ordering) → name_cmp name p.0 ≡ c → LeavesOut name p ps c
  without_by name p ps below rest Less e = kept_first name p ps rest
  without_by name p ps below rest Equal e =
      let none : find name ps ≡ None = found_below name ps (subst (λ n. below_all name_cmp n ps ≡ true) (sym (same_name name p.0 e)) below) in
      let same : joined hash (without name ps) ≡ joined hash ps =
      sym (xor_zero_r (joined hash (without name ps))) ∙ ap (bit_xor (joined hash (without name ps))) (sym (at_none name ps none)) ∙ rest in
      ap (λ w. bit_xor w (hash name p.1)) same ∙ xor_comm (joined hash ps) (hash name p.1)
      ∙ ap (λ n. bit_xor (hash n p.1) (joined hash ps)) (same_name name p.0 e)
  without_by name p ps below rest Greater e = kept_first name p ps rest

  without_joins : (name : List ℕ) (ps : List (List ℕ × A)) → IsRising ps
      → bit_xor (joined hash (without name ps)) (hash_at hash name ps) ≡ joined hash ps
  without_joins name [] rising = xor_zero_l 0
  without_joins name (p ∷ ps) rising =
      let parts = and_parts _ _ rising in
      without_by name p ps parts.0 (without_joins name ps parts.1) (name_cmp name p.0) refl

  -- ---- gone through one by one

  rest_at : (ps : List (List ℕ × A)) (i : ℕ) (name : List ℕ) (a : A) → slice_get (map (λ p. p.0) ps) i ≡ Some name → slice_get (map (λ p. p.1) ps) i ≡ Some a
      → joined hash (drop i ps) ≡ bit_xor (hash name a) (joined hash (drop (suc i) ps))
  rest_at [] i name a named is = absurd cc
  rest_at (p ∷ ps) zero name a named is =
      ap (λ n. bit_xor (hash n p.1) (joined hash ps)) (same_Some p.0 name named) ∙ ap (λ x. bit_xor (hash name x) (joined hash ps)) (same_Some p.1 a is)
  rest_at (p ∷ ps) (suc i) name a named is = rest_at ps i name a named is

  -- the pair at an index is joined
  pub joined_more : (ps : List (List ℕ × A)) (i : ℕ) (name : List ℕ) (a : A) (h w : ℕ) → slice_get (map (λ p. p.0) ps) i ≡ Some name → slice_get (map (λ p. p.1) ps) i ≡ Some a
      → bit_xor h (joined hash (drop i ps)) ≡ w → bit_xor (bit_xor h (hash name a)) (joined hash (drop (i + 1) ps)) ≡ w
  joined_more ps i name a h w named is before =
      ap (λ n. bit_xor (bit_xor h (hash name a)) (joined hash (drop n ps))) (add-one i)
      ∙ xor_assoc h (hash name a) (joined hash (drop (suc i) ps)) ∙ ap (bit_xor h) (sym (rest_at ps i name a named is)) ∙ before

  -- none is left
  pub joined_all : (ps : List (List ℕ × A)) (i : ℕ) (h w : ℕ) → length ps ≤ i → bit_xor h (joined hash (drop i ps)) ≡ w → h ≡ w
  joined_all ps i h w long before =
      sym (xor_zero_r h) ∙ ap (λ qs. bit_xor h (joined hash qs)) (sym (drop_all i ps long)) ∙ before

  -- ---- both change by as much

  -- all of them change by what the hash at a name changes
  abbrev pub ChangesBy : List ℕ → List (List ℕ × A) → List (List ℕ × A) → Type 0
  ChangesBy name old new =
      bit_xor (joined hash old) (hash_at hash name old) ≡ bit_xor (joined hash new) (hash_at hash name new)

  pub put_changes : (name : List ℕ) (a : A) (ps : List (List ℕ × A)) → IsRising ps → ChangesBy name ps (put name a ps)
  put_changes name a ps rising =
      across (joined hash ps) (joined hash (put name a ps)) (hash_at hash name ps) (hash name a) (put_joins name a ps rising)
      ∙ ap (bit_xor (joined hash (put name a ps))) (sym (at_some name a (put name a ps) (found_put name a ps)))

  pub without_changes : (name : List ℕ) (ps : List (List ℕ × A)) → IsRising ps → ChangesBy name ps (without name ps)
  without_changes name ps rising =
      let left : List (List ℕ × A) = without name ps in
      ap (λ w. bit_xor w (hash_at hash name ps)) (sym (without_joins name ps rising))
      ∙ joined_twice (joined hash left) (hash_at hash name ps)
      ∙ sym (ap (bit_xor (joined hash left)) (at_none name left (found_without name ps)) ∙ xor_zero_r (joined hash left))

  change_by : (name : List ℕ) (f : A → A) (ps : List (List ℕ × A)) → IsRising ps → (o : Option A)
      → ChangesBy name ps (option_map_or (λ a. put name (f a) ps) o ps)
  change_by name f ps rising None = refl
  change_by name f ps rising (Some a) = put_changes name (f a) ps rising

  pub change_changes : (name : List ℕ) (f : A → A) (ps : List (List ℕ × A)) → IsRising ps → ChangesBy name ps (change_part name f ps)
  change_changes name f ps rising = change_by name f ps rising (find name ps)

-- ---- pairs within pairs

-- joined hashes of tables change by what one table's hash at a key changes
pub within_changes : {A : Type 0} (hash : List ℕ → List ℕ → A → ℕ) (t k : List ℕ) (c : List (List ℕ × List (List ℕ × A))) (old new : List (List ℕ × A))
    → IsRising c → find t c ≡ Some old → ChangesBy (hash t) k old new
    → bit_xor (joined (λ n. joined (hash n)) c) (hash_at (hash t) k old) ≡ bit_xor (joined (λ n. joined (hash n)) (put t new c)) (hash_at (hash t) k new)
within_changes hash t k c old new rising is changes =
    let all = joined (λ n. joined (hash n)) in
    through (all c) (all (put t new c)) (joined (hash t) old) (joined (hash t) new) (hash_at (hash t) k old) (hash_at (hash t) k new)
    (across (all c) (all (put t new c)) (joined (hash t) old) (joined (hash t) new)
    (ap (bit_xor (all (put t new c))) (sym (at_some (λ n. joined (hash n)) t old c is)) ∙ put_joins (λ n. joined (hash n)) t new c rising))
    changes
