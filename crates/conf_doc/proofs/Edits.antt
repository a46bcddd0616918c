-- Pairs whose names rise: what stands at an index, and what an edit there makes.
use Rattle.std.proofs.Common.{◌≡◌, ℕ, zero, suc, ◌<◌, ◌≤◌, Bool, true, false, cond, not, ◌&&◌, T, List, [], ◌∷◌, map, length, set, get_or, slice_get, insert, remove, Some, None, if◌then◌else◌, Ordering, Less, Equal, Greater, is_lt, is_eq, refl, sym, ap, ◌∙◌, subst, arith}
use Rattle.std.specs.FinMap.Entries.{by_order, below_all, is_sorted-put, is_sorted-where_key}
use Rattle.std.specs.FinMap.{nat_cmp-IsAntisymmetric, slice_cmp-IsAntisymmetric}
use Rattle.std.specs.Cmp.{IsTotalOrder}
use Rattle.std.specs.Cmp.Lexicographic.{nat_list_cmp_total}
use Rattle.std.specs.Ordering.{ordering_index, ordering_reverse, eq_by_cmp}
use Rattle.std.proofs.lemmas.Bool.{and_parts}
use Rattle.std.proofs.lemmas.Cmp.{tied_itself}
use Rattle.host_core.specs.Names.{name_cmp}
use Rattle.conf_doc.specs.Indexes.{IsAt, IsBefore, IsBehind, IsBetween, IsGap}
use Rattle.conf_doc.specs.Pairs.{find, first_from, put, without, IsRising}
use Rattle.conf_doc.proofs.Lists.{length-map, map-set, map-insert, map-remove}

pub total : IsTotalOrder name_cmp
total = nat_list_cmp_total

pub same_name : (x y : List ℕ) → name_cmp x y ≡ Equal → x ≡ y
same_name = slice_cmp-IsAntisymmetric nat_cmp-IsAntisymmetric

itself : (x : List ℕ) → name_cmp x x ≡ Equal
itself x = tied_itself total x

tested : (b : Bool) → T b → b ≡ true
tested true h = refl
tested false h = absurd h

test : (b : Bool) → b ≡ true → T b
test b e = subst T (sym e) tt

pub less : (c : Ordering) → is_lt c ≡ true → c ≡ Less
less Less e = refl
less Equal e = cc
less Greater e = cc

pub same_Some : {A : Type 0} (x y : A) → Some x ≡ Some y → x ≡ y
same_Some x y e = cc

pub turned : (x y : List ℕ) (c : Ordering) → name_cmp x y ≡ c → name_cmp y x ≡ ordering_reverse c
turned x y c e = total.antisymm y x ∙ ap ordering_reverse e

-- of two names the lesser one compares no higher
pub index_by : (x y name : List ℕ) (c : Ordering) → name_cmp x y ≡ Less → name_cmp y name ≡ c → ordering_index (name_cmp x name) ≤ ordering_index c
index_by x y name Less lt e = rw (total.trans x y name lt e) (omega arith)
index_by x y name Equal lt e = rw (turned name x Greater (sym (total.congr y name x e) ∙ turned x y Less lt)) (omega arith)
index_by x y name Greater lt e = elim (name_cmp x name) as (λ c. ordering_index c ≤ 2) [ Less ↦ omega arith | Equal ↦ omega arith | Greater ↦ omega arith ]

module _ {A : Type 0} where
  -- a name that comes later is greater
  above : (x : List ℕ) (ps : List (List ℕ × A)) (name : List ℕ) (i : ℕ) → below_all name_cmp x ps ≡ true → slice_get (map (λ p. p.0) ps) i ≡ Some name → name_cmp name x ≡ Greater
  above x [] name i below has = cc
  above x (p ∷ ps) name zero below has =
      let e : p.0 ≡ name = same_Some _ _ has in
      total.antisymm name x ∙ ap ordering_reverse (subst (λ n. name_cmp x n ≡ Less) e (less _ (and_parts _ _ below).0))
  above x (p ∷ ps) name (suc i) below has = above x ps name i (and_parts _ _ below).1 has

  pub find_at : (ps : List (List ℕ × A)) (name : List ℕ) (i : ℕ) → IsRising ps → slice_get (map (λ p. p.0) ps) i ≡ Some name → find name ps ≡ slice_get (map (λ p. p.1) ps) i
  find_at [] name i rising has = cc
  find_at (p ∷ ps) name zero rising has =
      ap (λ c. cond (is_eq c) (Some p.1) (find name ps)) (subst (λ n. name_cmp n p.0 ≡ Equal) (same_Some _ _ has) (itself p.0))
  find_at (p ∷ ps) name (suc i) rising has =
      ap (λ c. cond (is_eq c) (Some p.1) (find name ps)) (above p.0 ps name i (and_parts _ _ rising).0 has)
      ∙ find_at ps name i (and_parts _ _ rising).1 has

  pub put_at : (ps : List (List ℕ × A)) (name : List ℕ) (a : A) (i : ℕ) → IsRising ps → slice_get (map (λ p. p.0) ps) i ≡ Some name → put name a ps ≡ set ps i (name, a)
  put_at [] name a i rising has = cc
  put_at (p ∷ ps) name a zero rising has =
      ap (λ c. by_order c ((name, a) ∷ p ∷ ps) ((p.0, a) ∷ ps) (p ∷ put name a ps)) (subst (λ n. name_cmp n p.0 ≡ Equal) (same_Some _ _ has) (itself p.0))
      ∙ ap (λ n. (n, a) ∷ ps) (same_Some _ _ has)
  put_at (p ∷ ps) name a (suc i) rising has =
      ap (λ c. by_order c ((name, a) ∷ p ∷ ps) ((p.0, a) ∷ ps) (p ∷ put name a ps)) (above p.0 ps name i (and_parts _ _ rising).0 has)
      ∙ ap (λ qs. p ∷ qs) (put_at ps name a i (and_parts _ _ rising).1 has)

  -- names that are all greater stay
  without_below : (ps : List (List ℕ × A)) (name : List ℕ) → below_all name_cmp name ps ≡ true → without name ps ≡ ps
  without_below [] name below = refl
  without_below (p ∷ ps) name below =
      ap (λ c. cond (not (is_eq c)) (p ∷ without name ps) (without name ps)) (less _ (and_parts _ _ below).0)
      ∙ ap (λ qs. p ∷ qs) (without_below ps name (and_parts _ _ below).1)

  pub without_at : (ps : List (List ℕ × A)) (name : List ℕ) (i : ℕ) → IsRising ps → slice_get (map (λ p. p.0) ps) i ≡ Some name → without name ps ≡ remove ps i
  without_at [] name i rising has = cc
  without_at (p ∷ ps) name zero rising has =
      ap (λ c. cond (not (is_eq c)) (p ∷ without name ps) (without name ps)) (subst (λ n. name_cmp n p.0 ≡ Equal) (same_Some _ _ has) (itself p.0))
      ∙ without_below ps name (subst (λ n. below_all name_cmp n ps ≡ true) (same_Some _ _ has) (and_parts _ _ rising).0)
  without_at (p ∷ ps) name (suc i) rising has =
      ap (λ c. cond (not (is_eq c)) (p ∷ without name ps) (without name ps)) (above p.0 ps name i (and_parts _ _ rising).0 has)
      ∙ ap (λ qs. p ∷ qs) (without_at ps name i (and_parts _ _ rising).1 has)

  set_same : (ps : List (List ℕ × A)) (i : ℕ) (p : List ℕ × A) → slice_get ps i ≡ Some p → set ps i p ≡ ps
  set_same [] i p at = refl
  set_same (q ∷ ps) zero p at = ap (λ r. r ∷ ps) (sym (same_Some _ _ at))
  set_same (q ∷ ps) (suc i) p at = ap (λ rs. q ∷ rs) (set_same ps i p at)

  name_of : (ps : List (List ℕ × A)) (i : ℕ) (p : List ℕ × A) → slice_get ps i ≡ Some p → slice_get (map (λ q. q.0) ps) i ≡ Some p.0
  name_of [] i p at = cc
  name_of (q ∷ ps) zero p at = ap (λ r. Some r.0) (same_Some _ _ at)
  name_of (q ∷ ps) (suc i) p at = name_of ps i p at

  -- a pair that is there is put in its own place
  pub put_same : (ps : List (List ℕ × A)) (name : List ℕ) (a b : A) (i : ℕ) → IsRising ps → slice_get ps i ≡ Some (name, a) → b ≡ a → put name b ps ≡ ps
  put_same ps name a b i rising at same =
      ap (λ c. put name c ps) same ∙ put_at ps name a i rising (name_of ps i (name, a) at) ∙ set_same ps i (name, a) at

  -- names above one that is greater are greater
  below_more : (x y : List ℕ) (ps : List (List ℕ × A)) → name_cmp x y ≡ Less → below_all name_cmp y ps ≡ true → below_all name_cmp x ps ≡ true
  below_more x y [] lt below = refl
  below_more x y (p ∷ ps) lt below =
      ap (λ c. is_lt c && below_all name_cmp x ps) (total.trans x y p.0 lt (less _ (and_parts _ _ below).0))
      ∙ below_more x y ps lt (and_parts _ _ below).1

  -- a name below those of a list isn't found there
  find_below : (ps : List (List ℕ × A)) (name : List ℕ) → below_all name_cmp name ps ≡ true → find name ps ≡ None
  find_below [] name below = refl
  find_below (p ∷ ps) name below =
      ap (λ c. cond (is_eq c) (Some p.1) (find name ps)) (less _ (and_parts _ _ below).0)
      ∙ find_below ps name (and_parts _ _ below).1

  first_below : (p : List ℕ × A) (ps : List (List ℕ × A)) (name : List ℕ) → IsRising (p ∷ ps) → name_cmp name p.0 ≡ Less → below_all name_cmp name (p ∷ ps) ≡ true
  first_below p ps name rising lt = ap (λ c. is_lt c && below_all name_cmp name ps) lt ∙ below_more name p.0 ps lt (and_parts _ _ rising).0

  pub find_gap : (ps : List (List ℕ × A)) (name : List ℕ) (i : ℕ) → IsRising ps → IsBetween ps name i → find name ps ≡ None
  find_gap [] name i rising between = refl
  find_gap (p ∷ ps) name zero rising between = find_below (p ∷ ps) name (first_below p ps name rising between)
  find_gap (p ∷ ps) name (suc i) rising between =
      ap (λ c. cond (is_eq c) (Some p.1) (find name ps)) between.0 ∙ find_gap ps name i (and_parts _ _ rising).1 between.1

  name_there : (ps : List (List ℕ × A)) (i : ℕ) → i < length ps → (n : List ℕ) × (slice_get (map (λ p. p.0) ps) i ≡ Some n)
  name_there [] i within = absurd (omega (arith, within))
  name_there (p ∷ ps) zero within = (p.0, refl)
  name_there (p ∷ ps) (suc i) within = name_there ps i (omega (arith, within))

  above_later : (p : List ℕ × A) (ps : List (List ℕ × A)) (name : List ℕ) (i : ℕ) → IsRising (p ∷ ps) → i < length ps → IsBehind (p ∷ ps) name (suc (suc i)) → name_cmp p.0 name ≡ Less
  above_later p ps name i rising within behind =
      let n = name_there ps i within in
      total.trans p.0 n.0 name (turned n.0 p.0 Greater (above p.0 ps n.0 i (and_parts _ _ rising).0 n.1)) (turned name n.0 Greater (behind (suc i) n.0 refl n.1))

  -- one that is above a later name of a list is above the first
  above_first : (p : List ℕ × A) (ps : List (List ℕ × A)) (name : List ℕ) (i : ℕ) → IsRising (p ∷ ps) → i ≤ length ps → IsBehind (p ∷ ps) name (suc i) → name_cmp name p.0 ≡ Greater
  above_first p ps name zero rising within behind = behind 0 p.0 refl refl
  above_first p [] name (suc i) rising within behind = absurd (omega (arith, within))
  above_first p (q ∷ ps) name (suc i) rising within behind =
      let later = above_later p (q ∷ ps) name i rising (omega (arith, within)) behind in
      turned p.0 name Less later

  -- a name between two neighbours isn't found
  pub find_beside : (ps : List (List ℕ × A)) (name : List ℕ) (i : ℕ) → IsRising ps → i ≤ length ps → IsBehind ps name i → IsBefore ps name i → find name ps ≡ None
  find_beside [] name i rising within behind before = refl
  find_beside (p ∷ ps) name zero rising within behind before = find_below (p ∷ ps) name (first_below p ps name rising (before p.0 refl))
  find_beside (p ∷ ps) name (suc i) rising within behind before =
      ap (λ c. cond (is_eq c) (Some p.1) (find name ps)) (above_first p ps name i rising (omega (arith, within)) behind)
      ∙ find_beside ps name i (and_parts _ _ rising).1 (omega (arith, within)) (λ k n e at. behind (suc k) n (ap suc e) at) before

  pub put_gap : (ps : List (List ℕ × A)) (name : List ℕ) (a : A) (i : ℕ) → i ≤ length ps → IsBetween ps name i → put name a ps ≡ insert ps i (name, a)
  put_gap [] name a zero within between = refl
  put_gap [] name a (suc i) within between = absurd (omega arith)
  put_gap (p ∷ ps) name a zero within between = ap (λ c. by_order c ((name, a) ∷ p ∷ ps) ((p.0, a) ∷ ps) (p ∷ put name a ps)) between
  put_gap (p ∷ ps) name a (suc i) within between =
      ap (λ c. by_order c ((name, a) ∷ p ∷ ps) ((p.0, a) ∷ ps) (p ∷ put name a ps)) between.0
      ∙ ap (λ qs. p ∷ qs) (put_gap ps name a i (omega arith) between.1)

  pub without_gap : (ps : List (List ℕ × A)) (name : List ℕ) (i : ℕ) → IsRising ps → IsBetween ps name i → without name ps ≡ ps
  without_gap [] name i rising between = refl
  without_gap (p ∷ ps) name zero rising between = without_below (p ∷ ps) name (first_below p ps name rising between)
  without_gap (p ∷ ps) name (suc i) rising between =
      ap (λ c. cond (not (is_eq c)) (p ∷ without name ps) (without name ps)) between.0
      ∙ ap (λ qs. p ∷ qs) (without_gap ps name i (and_parts _ _ rising).1 between.1)

  pub rising_put : (ps : List (List ℕ × A)) (name : List ℕ) (a : A) → IsRising ps → IsRising (put name a ps)
  rising_put ps name a rising = tested _ (is_sorted-put name_cmp total name a ps (test _ rising))

  pub rising_without : (ps : List (List ℕ × A)) (name : List ℕ) → IsRising ps → IsRising (without name ps)
  rising_without ps name rising = tested _ (is_sorted-where_key name_cmp (λ n. not (eq_by_cmp name_cmp name n)) ps (test _ rising))

  -- where a name stands, or would, no name is below it from there on
  pub first_from_at : (ps : List (List ℕ × A)) (name : List ℕ) (i : ℕ) → IsRising ps → slice_get (map (λ p. p.0) ps) i ≡ Some name → i ≡ first_from name ps
  first_from_at [] name i rising has = cc
  first_from_at (p ∷ ps) name zero rising has = ap (λ c. if is_lt c then suc (first_from name ps) else 0) (sym (subst (λ n. name_cmp p.0 n ≡ Equal) (same_Some _ _ has) (itself p.0)))
  first_from_at (p ∷ ps) name (suc i) rising has =
      ap suc (first_from_at ps name i (and_parts _ _ rising).1 has)
      ∙ ap (λ c. if is_lt c then suc (first_from name ps) else 0) (sym (turned name p.0 Greater (above p.0 ps name i (and_parts _ _ rising).0 has)))

  pub first_from_gap : (ps : List (List ℕ × A)) (name : List ℕ) (i : ℕ) → i ≤ length ps → IsBetween ps name i → i ≡ first_from name ps
  first_from_gap [] name zero within between = refl
  first_from_gap [] name (suc i) within between = absurd (omega arith)
  first_from_gap (p ∷ ps) name zero within between = ap (λ c. if is_lt c then suc (first_from name ps) else 0) (sym (turned name p.0 Less between))
  first_from_gap (p ∷ ps) name (suc i) within between =
      ap suc (first_from_gap ps name i (omega arith) between.1)
      ∙ ap (λ c. if is_lt c then suc (first_from name ps) else 0) (sym (turned name p.0 Greater between.0))

-- edits of a list whose items f shows as pairs; ds is that list again, as a search read it
module _ {I A : Type 0} (f : I → List ℕ × A) where
  part_seen : (xs : List I) (i : ℕ) (d : I) → i < length xs → slice_get (map (λ p. p.1) (map f xs)) i ≡ Some (f (get_or xs i d)).1
  part_seen [] i d within = absurd (omega arith)
  part_seen (x ∷ xs) zero d within = refl
  part_seen (x ∷ xs) (suc i) d within = part_seen xs i d (omega arith)

  name_seen : (xs : List I) (i : ℕ) (d : I) → i < length xs → slice_get (map (λ p. p.0) (map f xs)) i ≡ Some (f (get_or xs i d)).0
  name_seen [] i d within = absurd (omega arith)
  name_seen (x ∷ xs) zero d within = refl
  name_seen (x ∷ xs) (suc i) d within = name_seen xs i d (omega arith)

  pub part_read : (xs : List I) (i : ℕ) (x : I) → i < length (map f xs) → x ≡ get_or xs i x → slice_get (map (λ p. p.1) (map f xs)) i ≡ Some (f x).1
  part_read xs i x within read = part_seen xs i x (omega (arith, length-map f xs)) ∙ ap (λ y. Some (f y).1) (sym read)

  pub name_read : (xs : List I) (i : ℕ) (x : I) → i < length (map f xs) → x ≡ get_or xs i x → slice_get (map (λ p. p.0) (map f xs)) i ≡ Some (f x).0
  name_read xs i x within read = name_seen xs i x (omega (arith, length-map f xs)) ∙ ap (λ y. Some (f y).0) (sym read)

  module _ (ds xs : List I) (name : List ℕ) (i : ℕ) (same : ds ≡ xs) where
    here : IsAt (map f ds) name i → IsAt (map f xs) name i
    here at = subst (λ ys. IsAt (map f ys) name i) same at

    gap_here : IsGap (map f ds) name i → IsGap (map f xs) name i
    gap_here gap = subst (λ ys. IsGap (map f ys) name i) same gap

    inside : IsAt (map f ds) name i → i < length xs
    inside at = let within : i < length (map f xs) = (here at).within in omega (arith, length-map f xs)

    pub name_is : (x : I) → IsAt (map f ds) name i → x ≡ get_or xs i x → (f x).0 ≡ name
    name_is x at read = ap (λ y. (f y).0) read ∙ same_Some _ _ (sym (name_seen xs i x (inside at)) ∙ (here at).has)

    pub read_seen : (x : I) → IsRising (map f xs) → IsAt (map f ds) name i → x ≡ get_or xs i x → Some (f x).1 ≡ find name (map f xs)
    read_seen x rising at read =
        ap (λ y. Some (f y).1) read ∙ sym (part_seen xs i x (inside at)) ∙ sym (find_at (map f xs) name i rising (here at).has)

    pub none_seen : IsRising (map f xs) → IsGap (map f ds) name i → None ≡ find name (map f xs)
    none_seen rising gap = sym (find_gap (map f xs) name i rising (gap_here gap).between)

    pub set_seen : (a : A) (x : I) → IsRising (map f xs) → IsAt (map f ds) name i → f x ≡ (name, a) → map f (set xs i x) ≡ put name a (map f xs)
    set_seen a x rising at is = map-set f xs i x ∙ ap (set (map f xs) i) is ∙ sym (put_at (map f xs) name a i rising (here at).has)

    pub remove_seen : IsRising (map f xs) → IsAt (map f ds) name i → map f (remove xs i) ≡ without name (map f xs)
    remove_seen rising at = map-remove f xs i ∙ sym (without_at (map f xs) name i rising (here at).has)

    pub without_seen : IsRising (map f xs) → IsGap (map f ds) name i → map f xs ≡ without name (map f xs)
    without_seen rising gap = sym (without_gap (map f xs) name i rising (gap_here gap).between)

    pub insert_seen : (a : A) (x : I) → IsGap (map f ds) name i → f x ≡ (name, a) → map f (insert xs i x) ≡ put name a (map f xs)
    insert_seen a x gap is = map-insert f xs i x ∙ ap (insert (map f xs) i) is ∙ sym (put_gap (map f xs) name a i (gap_here gap).within (gap_here gap).between)

    pub rising_seen : (a : A) (x : I) → IsRising (map f xs) → IsAt (map f ds) name i → f x ≡ (name, a) → IsRising (map f (set xs i x))
    rising_seen a x rising at is = subst IsRising (sym (set_seen a x rising at is)) (rising_put (map f xs) name a rising)

    pub first_seen : IsRising (map f xs) → IsAt (map f ds) name i → i ≡ first_from name (map f xs)
    first_seen rising at = first_from_at (map f xs) name i rising (here at).has

    pub first_gap_seen : IsGap (map f ds) name i → i ≡ first_from name (map f xs)
    first_gap_seen gap = first_from_gap (map f xs) name i (gap_here gap).within (gap_here gap).between
