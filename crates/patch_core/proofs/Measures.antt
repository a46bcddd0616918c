-- The weight and the depth of lists of items and members after an edit.
use Rattle.std.specs.Prelude.{◌≡◌, ℕ, zero, suc, ◌+◌, ◌≤◌, max, Bool, true, false, not, ◌&&◌, List, [], ◌∷◌, ◌++◌, length, slice_get, slice_set, insert, remove as removed_at, Option, Some, None, is_some, IsTrue}
use Rattle.std.proofs.Common.{refl, sym, ap, ◌∙◌, arith, cond, subst}
use Rattle.std.proofs.lemmas.Float.{T_from_true}
use Rattle.std.specs.declared.cmp.Ordering.{Ordering}
use Rattle.std.specs.declared.cmp.Ordering.TheVariants.{Less, Equal, Greater}
use Rattle.std.specs.FinMap.{slice_cmp-IsAntisymmetric, nat_cmp-IsAntisymmetric}
use Rattle.std.specs.FinMap.Entries.{by_order, below_all, length-put, length_without}
use Rattle.std.specs.Ordering.{eq_by_cmp, is_eq}
use Rattle.std.specs.Cmp.Lexicographic.{nat_list_cmp_total}
use Rattle.host_core.specs.Names.{name_cmp}
use Rattle.conf_doc.specs.Document.{Document, items_of, members_of, weight, items_weight, members_weight, depth, items_depth, members_depth}
use Rattle.conf_doc.specs.Pairs.{IsRising, find, put, without}

abbrev pub weight_in : List Document → ℕ
weight_in ds = items_weight (items_of ds)

abbrev pub depth_in : List Document → ℕ
depth_in ds = items_depth (items_of ds)

abbrev pub weight_of : List (List ℕ × Document) → ℕ
weight_of ms = members_weight (members_of ms)

abbrev pub depth_of : List (List ℕ × Document) → ℕ
depth_of ms = members_depth (members_of ms)

abbrev some_of : {A : Type 0} → A → Option A
some_of x = Some x

none_is_some : {A : Type 0} (x : A) → None ≡ some_of x → ⊥
none_is_some x e = cc

equal_of : (o : Ordering) → is_eq o ≡ true → o ≡ Equal
equal_of Less e = absurd cc
equal_of Equal e = refl
equal_of Greater e = absurd cc

second : (a b : Bool) → IsTrue (a && b) → IsTrue b
second true b h = h
second false b h = absurd cc

some_is : {A : Type 0} (x y : A) → some_of x ≡ some_of y → x ≡ y
some_is x y e = cc

-- ---- items

pub weight-set : (ds : List Document) (i : ℕ) (c d : Document) → slice_get ds i ≡ Some c → weight_in (slice_set ds i d) + weight c ≡ weight_in ds + weight d
weight-set [] i c d e = absurd cc
weight-set (x ∷ ds) zero c d e = let same : x ≡ c = cc in omega (arith, ap weight same)
weight-set (x ∷ ds) (suc i) c d e = omega (arith, weight-set ds i c d e)

pub depth-set : (ds : List Document) (i : ℕ) (c d : Document) → slice_get ds i ≡ Some c → (depth_in (slice_set ds i d) ≤ max (depth_in ds) (depth d)) × (depth d ≤ depth_in (slice_set ds i d)) × (depth c ≤ depth_in ds)
depth-set [] i c d e = absurd cc
depth-set (x ∷ ds) zero c d e = let same : x ≡ c = cc in (omega arith, omega arith, omega (arith, ap depth same))
depth-set (x ∷ ds) (suc i) c d e = let rest = depth-set ds i c d e in (omega (arith, rest.0), omega (arith, rest.1), omega (arith, rest.2))

pub weight-insert : (ds : List Document) (i : ℕ) (d : Document) → weight_in (insert ds i d) ≡ weight_in ds + weight d
weight-insert [] zero d = omega arith
weight-insert [] (suc i) d = omega arith
weight-insert (x ∷ ds) zero d = omega arith
weight-insert (x ∷ ds) (suc i) d = omega (arith, weight-insert ds i d)

pub depth-insert : (ds : List Document) (i : ℕ) (d : Document) → depth_in (insert ds i d) ≡ max (depth_in ds) (depth d)
depth-insert [] zero d = omega arith
depth-insert [] (suc i) d = omega arith
depth-insert (x ∷ ds) zero d = omega arith
depth-insert (x ∷ ds) (suc i) d = omega (arith, depth-insert ds i d)

pub weight-push : (ds : List Document) (d : Document) → weight_in (ds ++ d ∷ []) ≡ weight_in ds + weight d
weight-push [] d = omega arith
weight-push (x ∷ ds) d = omega (arith, weight-push ds d)

pub depth-push : (ds : List Document) (d : Document) → depth_in (ds ++ d ∷ []) ≡ max (depth_in ds) (depth d)
depth-push [] d = omega arith
depth-push (x ∷ ds) d = omega (arith, depth-push ds d)

pub weight-removed : (ds : List Document) (i : ℕ) (c : Document) → slice_get ds i ≡ Some c → weight_in (removed_at ds i) + weight c ≡ weight_in ds
weight-removed [] i c e = absurd cc
weight-removed (x ∷ ds) zero c e = let same : x ≡ c = cc in omega (arith, ap weight same)
weight-removed (x ∷ ds) (suc i) c e = omega (arith, weight-removed ds i c e)

pub depth-removed : (ds : List Document) (i : ℕ) (c : Document) → slice_get ds i ≡ Some c → depth_in (removed_at ds i) ≤ depth_in ds
depth-removed [] i c e = absurd cc
depth-removed (x ∷ ds) zero c e = omega arith
depth-removed (x ∷ ds) (suc i) c e = omega (arith, depth-removed ds i c e)

-- ---- members

rising_rest : (m : List ℕ × Document) (ms : List (List ℕ × Document)) → IsRising (m ∷ ms) → IsRising ms
rising_rest m ms h = second (below_all name_cmp m.0 ms) _ h

-- a name below the first is not there
not_before : (k : List ℕ) (c : Document) (m : List ℕ × Document) (ms : List (List ℕ × Document)) → IsRising (m ∷ ms) → name_cmp k m.0 ≡ Less → find k (m ∷ ms) ≡ Some c → ⊥
not_before k c m ms rising e there =
    let long = length-put name_cmp nat_list_cmp_total k c (m ∷ ms) (T_from_true _ rising) in
    let put_is : length (put k c (m ∷ ms)) ≡ suc (suc (length ms)) = ap (λ (o : Ordering). length (by_order o ((k, c) ∷ m ∷ ms) ((m.0, c) ∷ ms) (m ∷ put k c ms))) e in
    let found_is : cond (is_some (find k (m ∷ ms))) (suc (length ms)) (suc (length ms) + 1) ≡ suc (length ms) = ap (λ (o : Option Document). cond (is_some o) (suc (length ms)) (suc (length ms) + 1)) there in
    omega (arith, long, put_is, found_is)

-- a name that ties with the first is the first, and found there
found_first : (k : List ℕ) (m : List ℕ × Document) (ms : List (List ℕ × Document)) → name_cmp k m.0 ≡ Equal → find k (m ∷ ms) ≡ Some m.1
found_first k m ms e = ap (λ (o : Ordering). cond (is_eq o) (Some m.1) (find k ms)) e

found_later : (k : List ℕ) (m : List ℕ × Document) (ms : List (List ℕ × Document)) → name_cmp k m.0 ≡ Greater → find k (m ∷ ms) ≡ find k ms
found_later k m ms e = ap (λ (o : Ordering). cond (is_eq o) (Some m.1) (find k ms)) e

found_after : (k : List ℕ) (m : List ℕ × Document) (ms : List (List ℕ × Document)) → name_cmp k m.0 ≡ Less → find k (m ∷ ms) ≡ find k ms
found_after k m ms e = ap (λ (o : Ordering). cond (is_eq o) (Some m.1) (find k ms)) e

pub weight-put_there : (k : List ℕ) (c d : Document) (ms : List (List ℕ × Document)) → IsRising ms → find k ms ≡ Some c → weight_of (put k d ms) + weight c ≡ weight_of ms + weight d
weight-put_there k c d [] rising there = absurd cc
weight-put_there k c d (m ∷ ms) rising there =
    elim (name_cmp k m.0) as (λ o. name_cmp k m.0 ≡ o → weight_of (by_order o ((k, d) ∷ m ∷ ms) ((m.0, d) ∷ ms) (m ∷ put k d ms)) + weight c ≡ weight_of (m ∷ ms) + weight d) [
      | Less ↦ λ e. absurd (not_before k c m ms rising e there)
      | Equal ↦ λ e. let same : m.1 ≡ c = some_is m.1 c (sym (found_first k m ms e) ∙ there) in omega (arith, ap weight same)
      | Greater ↦ λ e. omega (arith, weight-put_there k c d ms (rising_rest m ms rising) (sym (found_later k m ms e) ∙ there))
    ] refl

pub weight-put_new : (k : List ℕ) (d : Document) (ms : List (List ℕ × Document)) → find k ms ≡ None → weight_of (put k d ms) ≡ weight_of ms + weight d + length k
weight-put_new k d [] none = omega arith
weight-put_new k d (m ∷ ms) none =
    elim (name_cmp k m.0) as (λ o. name_cmp k m.0 ≡ o → weight_of (by_order o ((k, d) ∷ m ∷ ms) ((m.0, d) ∷ ms) (m ∷ put k d ms)) ≡ weight_of (m ∷ ms) + weight d + length k) [
      | Less ↦ λ e. omega arith
      | Equal ↦ λ e. absurd (none_is_some m.1 (sym none ∙ found_first k m ms e))
      | Greater ↦ λ e. omega (arith, weight-put_new k d ms (sym (found_later k m ms e) ∙ none))
    ] refl

pub depth-put : (k : List ℕ) (d : Document) (ms : List (List ℕ × Document)) → (depth_of (put k d ms) ≤ max (depth_of ms) (depth d)) × (depth d ≤ depth_of (put k d ms))
depth-put k d [] = (omega arith, omega arith)
depth-put k d (m ∷ ms) =
    let rest = depth-put k d ms in
    elim (name_cmp k m.0) as (λ o. (depth_of (by_order o ((k, d) ∷ m ∷ ms) ((m.0, d) ∷ ms) (m ∷ put k d ms)) ≤ max (depth_of (m ∷ ms)) (depth d)) × (depth d ≤ depth_of (by_order o ((k, d) ∷ m ∷ ms) ((m.0, d) ∷ ms) (m ∷ put k d ms)))) [
      | Less ↦ (omega arith, omega arith)
      | Equal ↦ (omega arith, omega arith)
      | Greater ↦ (omega (arith, rest.0), omega (arith, rest.1))
    ]

pub depth_there : (k : List ℕ) (c : Document) (ms : List (List ℕ × Document)) → find k ms ≡ Some c → depth c ≤ depth_of ms
depth_there k c [] there = absurd cc
depth_there k c (m ∷ ms) there =
    elim (name_cmp k m.0) as (λ o. name_cmp k m.0 ≡ o → depth c ≤ depth_of (m ∷ ms)) [
      | Less ↦ λ e. omega (arith, depth_there k c ms (sym (found_after k m ms e) ∙ there))
      | Equal ↦ λ e. let same : m.1 ≡ c = some_is m.1 c (sym (found_first k m ms e) ∙ there) in omega (arith, ap depth same)
      | Greater ↦ λ e. omega (arith, depth_there k c ms (sym (found_later k m ms e) ∙ there))
    ] refl

-- a name that is not there takes nothing along
without_none : (k : List ℕ) (ms : List (List ℕ × Document)) → find k ms ≡ None → without k ms ≡ ms
without_none k [] none = refl
without_none k (m ∷ ms) none =
    elim (eq_by_cmp name_cmp k m.0) as (λ b. cond b (Some m.1) (find k ms) ≡ None → cond (not b) (m ∷ without k ms) (without k ms) ≡ m ∷ ms) [
      | true ↦ λ n. absurd (none_is_some m.1 (sym n))
      | false ↦ λ n. ap (λ (ns : List (List ℕ × Document)). m ∷ ns) (without_none k ms n)
    ] none

-- in_front its member a name comes no more
once : (k : List ℕ) (m : List ℕ × Document) (ms : List (List ℕ × Document)) → IsRising (m ∷ ms) → eq_by_cmp name_cmp k m.0 ≡ true → find k ms ≡ None
once k m ms rising tie =
    let all = length_without name_cmp nat_list_cmp_total k (m ∷ ms) (T_from_true _ rising) in
    let rest = length_without name_cmp nat_list_cmp_total k ms (T_from_true _ (rising_rest m ms rising)) in
    let whole : 1 + length (without k ms) ≡ suc (length ms) = subst (λ (b : Bool). cond (is_some (cond b (Some m.1) (find k ms))) 1 0 + length (cond (not b) (m ∷ without k ms) (without k ms)) ≡ suc (length ms)) tie all in
    elim (find k ms) as (λ o. cond (is_some o) 1 0 + length (without k ms) ≡ length ms → o ≡ None) [
      | None ↦ λ h. refl
      | Some c ↦ λ h. absurd (omega (arith, h, whole))
    ] rest

tied : (k l : List ℕ) → eq_by_cmp name_cmp k l ≡ true → k ≡ l
tied k l tie = slice_cmp-IsAntisymmetric nat_cmp-IsAntisymmetric k l (equal_of (name_cmp k l) tie)

pub weight-without : (k : List ℕ) (c : Document) (ms : List (List ℕ × Document)) → IsRising ms → find k ms ≡ Some c → weight_of (without k ms) + weight c + length k ≡ weight_of ms
weight-without k c [] rising there = absurd cc
weight-without k c (m ∷ ms) rising there =
    elim (eq_by_cmp name_cmp k m.0) as (λ b. eq_by_cmp name_cmp k m.0 ≡ b → cond b (Some m.1) (find k ms) ≡ Some c → weight_of (cond (not b) (m ∷ without k ms) (without k ms)) + weight c + length k ≡ weight_of (m ∷ ms)) [
      | true ↦ λ tie is.
          let same : m.1 ≡ c = some_is m.1 c is in
          omega (arith, ap weight same, ap length (tied k m.0 tie), ap weight_of (without_none k ms (once k m ms rising tie)))
      | false ↦ λ tie is. omega (arith, weight-without k c ms (rising_rest m ms rising) is)
    ] refl there

pub depth-without : (k : List ℕ) (ms : List (List ℕ × Document)) → depth_of (without k ms) ≤ depth_of ms
depth-without k [] = omega arith
depth-without k (m ∷ ms) =
    let rest = depth-without k ms in
    elim (eq_by_cmp name_cmp k m.0) as (λ b. depth_of (cond (not b) (m ∷ without k ms) (without k ms)) ≤ depth_of (m ∷ ms)) [
      | true ↦ omega (arith, rest)
      | false ↦ omega (arith, rest)
    ]
