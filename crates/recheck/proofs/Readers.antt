-- Verdicts on entries with a must that reads a table.
use Rattle.std.proofs.Common.{◌≡◌, ◌≤◌, ◌+◌, ◌<◌, ℕ, zero, suc, Bool, true, false, not, ◌||◌, List, [], ◌∷◌, None, Some, Option, option_and_then, IsTrue, slice_get, get_or, length, Contains, refl, sym, ap, ◌∙◌, subst, inl, inr, arith}
use Rattle.std.proofs.lemmas.Option.{slice_get-get_or}
use Rattle.std.proofs.lemmas.Bool.{cases_lt, false≢true}
use Rattle.std.specs.Option.{option_map_or}
use Rattle.std.specs.Bool.{OnFalse}
use Rattle.std.specs.List.{list_any}
use Rattle.std.specs.Str.{bytes_eq}
use Rattle.std.proofs.lemmas.Slice.Eq.{bytes_eq-Decides}
use Rattle.yang_model.specs.Belongs.{Belongs, Belongs-once}
use Rattle.yang_model.specs.ModelSets.{ModelSet, TableModel, shape_of, shapes_of, table_named}
use Rattle.yang_model.specs.declared.shapes.Shape.{Shape}
use Rattle.conf_check.specs.Rows.{IsShapeOf}
use Rattle.recheck.specs.Changes.{AreNoReaders, AreUnread, HaveNoReaders, IsOfLast, is_reader}
use Rattle.recheck.specs.Turned.{Reads}
use Rattle.recheck.specs.declared.verdicts.Verdict.{Verdict}
use Rattle.recheck.proofs.Pairs.{at_contained, some_same}
use Rattle.recheck.proofs.Rows.{shape_once}

or_true : (b : Bool) → (b || true) ≡ true
or_true true = refl
or_true false = refl

any_at : {X : Type 0} (p : X → Bool) (xs : List X) (i : ℕ) (x : X) → slice_get xs i ≡ Some x → p x ≡ true → list_any p xs ≡ true
any_at p [] i x at is = cc
any_at p (y ∷ ys) zero x at is = ap (λ b. b || list_any p ys) (ap p (some_same y x at) ∙ is)
any_at p (y ∷ ys) (suc i) x at is = ap (λ b. p y || b) (any_at p ys i x at is) ∙ or_true (p y)

any_has : {X : Type 0} (p : X → Bool) (xs : List X) (x : X) → Contains xs x → p x ≡ true → list_any p xs ≡ true
any_has p xs x has is = any_at p xs has.0 x (at_contained xs x has) is

any_by : {X : Type 0} (p : X → Bool) (y : X) (ys : List X) (b : Bool) → p y ≡ b → (b || list_any p ys) ≡ true
    → (list_any p ys ≡ true → (x : X) × Contains ys x × (p x ≡ true)) → (x : X) × Contains (y ∷ ys) x × (p x ≡ true)
any_by p y ys true here is more = (y, (0, omega arith, refl), here)
any_by p y ys false here is more = let m = more is in (m.0, (suc m.1.0, omega (arith, m.1.1), m.1.2), m.2)

any_from : {X : Type 0} (p : X → Bool) (xs : List X) → list_any p xs ≡ true → (x : X) × Contains xs x × (p x ≡ true)
any_from p [] is = cc
any_from p (y ∷ ys) is = any_by p y ys (p y) refl is (any_from p ys)

-- ---- the shapes of a table

shape_there : (o : Option TableModel) (p : ℕ) → option_and_then (λ t. slice_get t.shapes p) o ≡ slice_get (option_map_or (λ t. t.shapes) o []) p
shape_there None p = refl
shape_there (Some t) p = refl

none_past : {X : Type 0} (xs : List X) (n i : ℕ) (x : X) → n ≤ i → slice_get xs i ≡ Some x → None ≡ slice_get xs n → ⊥
none_past [] n i x le at none = cc
none_past (y ∷ ys) zero i x le at none = cc
none_past (y ∷ ys) (suc n) zero x le at none = omega (arith, le)
none_past (y ∷ ys) (suc n) (suc i) x le at none = none_past ys n i x (omega (arith, le)) at none

module _ (models : ModelSet) (name table : List ℕ) where
  pub readers_start : AreNoReaders models name table 0
  readers_start place shape lt at = absurd (omega (arith, lt))

  pub readers_more : (n : ℕ) → AreNoReaders models name table n → (shape : Shape) → Some shape ≡ shape_of name n models → (b : Bool)
      → b ≡ list_any (is_reader table) shape.musts → b ≡ false → AreNoReaders models name table (n + 1)
  readers_more n before shape is b tells none place s lt at =
      elim (cases_lt place n) [
        | inl less ↦ before place s less at
        | inr more ↦
            let same : place ≡ n = omega arith in
            let here : slice_get (shapes_of name models) n ≡ Some s = subst (λ j. slice_get (shapes_of name models) j ≡ Some s) same at in
            let e : shape ≡ s = some_same shape s (is ∙ shape_there (table_named name models) n ∙ here) in
            subst (λ (x : Shape). list_any (is_reader table) x.musts ≡ false) e (sym tells ∙ none)
      ]

  pub readers_end : (n : ℕ) → AreNoReaders models name table n → None ≡ shape_of name n models → (m : ℕ) → AreNoReaders models name table m
  readers_end n before is m place s lt at =
      elim (cases_lt place n) [
        | inl less ↦ before place s less at
        | inr more ↦ absurd (none_past (shapes_of name models) n place s (omega arith) at (is ∙ shape_there (table_named name models) n))
      ]

-- ---- verdicts

not_both : (b : Bool) → b ≡ true → IsTrue (not b) → ⊥
not_both true e is = cc
not_both false e is = cc

module _ (models : ModelSet) (table : List ℕ) (v : Verdict) where
  -- an entry whose shape has no such must has none
  pub no_reader : (t k : List ℕ) (b : Bool) (shape : Shape) → t ≡ v.table → k ≡ v.key → IsShapeOf models t k shape → b ≡ list_any (is_reader table) shape.musts
      → IsTrue (not b) → ¬ Reads models table v
  no_reader t k b shape is_t is_k shaped is none reads =
      let mine : IsShapeOf models v.table v.key shape = subst (λ x. IsShapeOf models v.table x shape) is_k (subst (λ x. IsShapeOf models x k shape) is_t shaped) in
      let same : reads.shape ≡ shape = shape_once models v.table v.key reads.shape shape reads.shaped mine in
      let of : Contains shape.musts reads.must = subst (λ (s : Shape). Contains s.musts reads.must) same reads.of_shape in
      let here : is_reader table reads.must ≡ true = any_has (λ name. bytes_eq name table) reads.must.reads table reads.reads ((bytes_eq-Decides table table).1 refl) in
      not_both b (is ∙ any_has (is_reader table) shape.musts reads.must of here) none

  -- nor where no shape of its table has one
  pub no_readers : (t : List ℕ) → t ≡ v.table → ((n : ℕ) → AreNoReaders models t table n) → ¬ Reads models table v
  no_readers t is_t none reads =
      let none_here : AreNoReaders models v.table table (reads.shaped.place + 1) = subst (λ x. AreNoReaders models x table (reads.shaped.place + 1)) is_t (none (reads.shaped.place + 1)) in
      let not : list_any (is_reader table) reads.shape.musts ≡ false = none_here reads.shaped.place reads.shape (omega arith) reads.shaped.is in
      let here : is_reader table reads.must ≡ true = any_has (λ name. bytes_eq name table) reads.must.reads table reads.reads ((bytes_eq-Decides table table).1 refl) in
      let is : list_any (is_reader table) reads.shape.musts ≡ true = any_has (is_reader table) reads.shape.musts reads.must reads.of_shape here in
      false≢true (sym not ∙ is)

  -- nor has one of no shape
  pub no_shape : (t k : List ℕ) → t ≡ v.table → k ≡ v.key → Belongs (shapes_of t models) k None → ¬ Reads models table v
  no_shape t k is_t is_k nowhere reads =
      let none : Belongs (shapes_of v.table models) v.key None =
      subst (λ x. Belongs (shapes_of v.table models) x None) is_k (subst (λ x. Belongs (shapes_of x models) k None) is_t nowhere) in
      let e : None ≡ Some reads.shaped.place = Belongs-once (shapes_of v.table models) v.key None (Some reads.shaped.place) none reads.shaped.belongs in
      cc

  -- and one whose shape has one reads the table
  pub reads_by : (t k : List ℕ) (b : Bool) (shape : Shape) → t ≡ v.table → k ≡ v.key → IsShapeOf models t k shape → b ≡ list_any (is_reader table) shape.musts
      → OnFalse (not b) (Reads models table v)
  reads_by t k true shape is_t is_k shaped is =
      let m = any_from (is_reader table) shape.musts (sym is) in
      let r = any_from (λ name. bytes_eq name table) m.0.reads m.2 in
      record {
        shape = shape;
        shaped = subst (λ x. IsShapeOf models v.table x shape) is_k (subst (λ x. IsShapeOf models x k shape) is_t shaped);
        must = m.0;
        of_shape = m.1;
        reads = subst (λ n. Contains m.0.reads n) ((bytes_eq-Decides r.0 table).0 r.2) r.1;
      }
  reads_by t k false shape is_t is_k shaped is = tt

-- ---- verdicts gone through

module _ (models : ModelSet) (table : List ℕ) (vs : List Verdict) where
  pub none_start : HaveNoReaders models table vs 0
  none_start k v lt at = absurd (omega (arith, lt))

  pub none_more : (i : ℕ) → HaveNoReaders models table vs i → (v : Verdict) → slice_get vs i ≡ Some v
      → ((n : ℕ) → AreNoReaders models v.table table n) → HaveNoReaders models table vs (i + 1)
  none_more i before v here none k w lt at =
      elim (cases_lt k i) [
        | inl less ↦ before k w less at
        | inr more ↦
            let same : k ≡ i = omega arith in
            let there : slice_get vs i ≡ Some w = subst (λ j. slice_get vs j ≡ Some w) same at in
            let e : v ≡ w = some_same v w (sym here ∙ there) in
            subst (λ (x : Verdict). (n : ℕ) → AreNoReaders models x.table table n) e none
      ]

  pub none_last : (i : ℕ) → HaveNoReaders models table vs i → IsOfLast vs i → HaveNoReaders models table vs (i + 1)
  none_last i before last =
      let f = last.follows in
      none_more i before last.here last.at
      (subst (λ t. (n : ℕ) → AreNoReaders models t table n) last.same
      (before last.k last.before (omega (arith, f)) last.at_before))

  pub none_all : (i : ℕ) → length vs ≤ i → HaveNoReaders models table vs i → AreUnread models table vs
  none_all i end none k d lt =
      no_readers models table (get_or vs k d) (get_or vs k d).table refl
      (none k (get_or vs k d) (omega (arith, lt, end)) (slice_get-get_or vs k d lt))

equal_names : (a b : List ℕ) (e : Bool) → e ≡ bytes_eq a b → IsTrue e → a ≡ b
equal_names a b true is t = (bytes_eq-Decides a b).0 (sym is)
equal_names a b false is t = cc

-- neighbours with one table
pub last_by : (vs : List Verdict) (k i : ℕ) (u v : Verdict) (a b : List ℕ) (e : Bool) → suc k ≡ i → i < length vs
    → a ≡ (get_or vs k u).table → b ≡ (get_or vs i v).table → e ≡ bytes_eq a b → IsTrue e → IsOfLast vs i
last_by vs k i u v a b e follows within is_a is_b is holds = record {
  k = k;
  before = get_or vs k u;
  here = get_or vs i v;
  follows = follows;
  at_before = slice_get-get_or vs k u (omega (arith, follows, within));
  at = slice_get-get_or vs i v within;
  same = sym is_a ∙ equal_names a b e is holds ∙ is_b;
}

-- the end of a walk over one more
pub none_tells : (models : ModelSet) (table : List ℕ) (vs : List Verdict) (i : ℕ) (v : Verdict) (a : List ℕ) (b : Bool)
    → HaveNoReaders models table vs i → i < length vs → a ≡ (get_or vs i v).table
    → OnFalse b ((n : ℕ) → AreNoReaders models a table n) → OnFalse b (HaveNoReaders models table vs (i + 1))
none_tells models table vs i v a true before within is tells = tells
none_tells models table vs i v a false before within is tells =
    none_more models table vs i before (get_or vs i v) (slice_get-get_or vs i v within)
    (subst (λ t. (n : ℕ) → AreNoReaders models t table n) is tells)

pub true_holds : (b : Bool) (P : Type 0) → b ≡ true → (IsTrue b → P) → P
true_holds true P e f = f (search)
true_holds false P e f = cc
