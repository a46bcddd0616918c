-- The two ways in which an entry of goal is added.
use Rattle.std.proofs.Common.{◌≡◌, ◌↔◌, IsTrue, Bool, ℕ, List, [], ◌∷◌, length, slice_get, arith, ◌⊎◌, Option, Some, None, option_map, option_and_then, is_some, IsSome, if◌then◌else◌, refl, sym, ap, ◌∙◌, subst}
use Rattle.conf_doc.specs.Changes.{entry_at, part_at, HasPlace}
use Rattle.conf_doc.specs.Pairs.{find}
use Rattle.conf_doc.specs.declared.configuration.Entry.{Entry}
use Rattle.conf_doc.specs.declared.configuration.Table.{Table}
use Rattle.conf_doc.specs.declared.parts.Part.TheVariants as part
use Rattle.move_core.specs.Contexts.{rulebook}
use Rattle.move_core.specs.Generated.{IsSeed}
use Rattle.move_core.specs.Moves.{Place}
use Rattle.move_core.specs.declared.moves.Move.{Move}
use Rattle.move_core.specs.declared.moves.Move.TheVariants.{Add}
use Rattle.plan_check.specs.NewEntries.{AddsNew, IsNew}
use Rattle.plan_check.specs.declared.here.Here.{Here}

-- into its table
pub record IsAddedIn (h : Here) (p : Place) (new : Entry) : Type 0 where
  pub table : List ℕ
  pub key : List ℕ
  pub place : p ≡ table ∷ key ∷ []
  pub some : IsSome (find table h.cur.now)
  pub is : IsNew h table key new

-- with its table
pub record IsAddedAlone (h : Here) (p : Place) (alone : Table) : Type 0 where
  pub table : List ℕ
  pub key : List ℕ
  pub new : Entry
  pub place : p ≡ table ∷ []
  pub none : find table h.cur.now ≡ None
  pub pair : alone ≡ (key, new) ∷ []
  pub is : IsNew h table key new

module _ (h : Here) where
  abbrev made : List ℕ → List ℕ → Entry → Option Table → Move
  made t k n o = if is_some o then Add (t ∷ k ∷ []) (part.Entry n) else Add (t ∷ []) (part.Table ((k, n) ∷ []))

  in_by : (p : Place) (new : Entry) (a : AddsNew h (Add p (part.Entry new))) (o : Option Table) → find a.table h.cur.now ≡ o → Add p (part.Entry new) ≡ made a.table a.key a.new o → IsAddedIn h p new
  in_by p new a None is e = cc
  in_by p new a (Some x) is e =
      let place : p ≡ a.table ∷ a.key ∷ [] = cc in
      let same : a.new ≡ new = cc in
      record { table = a.table; key = a.key; place = place; some = subst IsSome (sym is) refl; is = subst (IsNew h a.table a.key) same a.entry }

  pub in_then : (p : Place) (new : Entry) → AddsNew h (Add p (part.Entry new)) → IsAddedIn h p new
  in_then p new a = in_by p new a (find a.table h.cur.now) refl a.move

  alone_by : (p : Place) (x : Table) (a : AddsNew h (Add p (part.Table x))) (o : Option Table) → find a.table h.cur.now ≡ o → Add p (part.Table x) ≡ made a.table a.key a.new o → IsAddedAlone h p x
  alone_by p x a None is e =
      let place : p ≡ a.table ∷ [] = cc in
      let pair : x ≡ (a.key, a.new) ∷ [] = cc in
      record { table = a.table; key = a.key; new = a.new; place = place; none = is; pair = pair; is = a.entry }
  alone_by p x a (Some y) is e = cc

  pub alone_then : (p : Place) (x : Table) → AddsNew h (Add p (part.Table x)) → IsAddedAlone h p x
  alone_then p x a = alone_by p x a (find a.table h.cur.now) refl a.move

  some_made : (t k : List ℕ) (n : Entry) (o : Option Table) → IsSome o → made t k n o ≡ Add (t ∷ k ∷ []) (part.Entry n)
  some_made t k n None some = absurd cc
  some_made t k n (Some x) some = refl

  pub in_if : (p : Place) (new : Entry) → IsAddedIn h p new → AddsNew h (Add p (part.Entry new))
  in_if p new is = record {
    table = is.table;
    key = is.key;
    new = new;
    entry = is.is;
    move = ap (λ q. Add q (part.Entry new)) is.place ∙ sym (some_made is.table is.key new (find is.table h.cur.now) is.some);
  }

  pub alone_if : (p : Place) (x : Table) → IsAddedAlone h p x → AddsNew h (Add p (part.Table x))
  alone_if p x is = record {
    table = is.table;
    key = is.key;
    new = is.new;
    entry = is.is;
    move = (λ i. Add (is.place i) (part.Table (is.pair i))) ∙ sym (ap (made is.table is.key is.new) is.none);
  }

  -- ---- tests

  pub in_long : (p : Place) (new : Entry) → ¬ (length p ≡ 2) → ¬ AddsNew h (Add p (part.Entry new))
  in_long p new other a = other (ap length (in_then p new a).place)

  pub in_none : (p : Place) (new : Entry) (t k : List ℕ) → p ≡ t ∷ k ∷ [] → find t h.cur.now ≡ None → ¬ AddsNew h (Add p (part.Entry new))
  in_none p new t k at none a =
      let one = in_then p new a in
      let names : one.table ∷ one.key ∷ [] ≡ t ∷ k ∷ [] = sym one.place ∙ at in
      let table : one.table ≡ t = cc in
      let some = subst IsSome none (subst (λ u. IsSome (find u h.cur.now)) table one.some) in
      absurd cc

  pub in_test : (p : Place) (new : Entry) (t k : List ℕ) → p ≡ t ∷ k ∷ [] → IsSome (find t h.cur.now) → (b : Bool) → (IsTrue b ↔ IsNew h t k new)
      → IsTrue b ↔ AddsNew h (Add p (part.Entry new))
  in_test p new t k at some b says = (
    λ is. in_if p new (record { table = t; key = k; place = at; some = some; is = says.0 is }),
    λ a.
        let one = in_then p new a in
        let names : one.table ∷ one.key ∷ [] ≡ t ∷ k ∷ [] = sym one.place ∙ at in
        let table : one.table ≡ t = cc in
        let key : one.key ≡ k = cc in
        says.1 (subst (λ u. IsNew h u k new) table (subst (λ j. IsNew h one.table j new) key one.is)),
  )

  pub alone_long : (p : Place) (x : Table) → ¬ (length p ≡ 1) → ¬ AddsNew h (Add p (part.Table x))
  alone_long p x other a = other (ap length (alone_then p x a).place)

  pub alone_many : (p : Place) (x : Table) → ¬ (length x ≡ 1) → ¬ AddsNew h (Add p (part.Table x))
  alone_many p x other a = other (ap length (alone_then p x a).pair)

  pub alone_some : (p : Place) (x : Table) (t : List ℕ) → p ≡ t ∷ [] → IsSome (find t h.cur.now) → ¬ AddsNew h (Add p (part.Table x))
  alone_some p x t at some a =
      let one = alone_then p x a in
      let names : one.table ∷ [] ≡ t ∷ [] = sym one.place ∙ at in
      let table : one.table ≡ t = cc in
      let has = subst IsSome (subst (λ u. find u h.cur.now ≡ None) table one.none) some in
      absurd cc

  pub alone_test : (p : Place) (x : Table) (t k : List ℕ) (n : Entry) → p ≡ t ∷ [] → x ≡ (k, n) ∷ [] → find t h.cur.now ≡ None → (b : Bool) → (IsTrue b ↔ IsNew h t k n)
      → IsTrue b ↔ AddsNew h (Add p (part.Table x))
  alone_test p x t k n at pair none b says = (
    λ is. alone_if p x (record { table = t; key = k; new = n; place = at; none = none; pair = pair; is = says.0 is }),
    λ a.
        let one = alone_then p x a in
        let names : one.table ∷ [] ≡ t ∷ [] = sym one.place ∙ at in
        let table : one.table ≡ t = cc in
        let pairs = same_cons (one.key, one.new) (k, n) (sym one.pair ∙ pair) in
        let key : one.key ≡ k = ap (λ (q : List ℕ × Entry). q.0) pairs in
        let new : one.new ≡ n = ap (λ (q : List ℕ × Entry). q.1) pairs in
        says.1 (subst (λ u. IsNew h u k n) table (subst (λ j. IsNew h one.table j n) key (subst (IsNew h one.table one.key) new one.is))),
  )
    where
      same_cons : (u v : List ℕ × Entry) → u ∷ [] ≡ v ∷ [] → u ≡ v
      same_cons u v e = cc

-- ---- the entry

entry_part : (k : List ℕ) (o : Option Table) → option_and_then (λ table. option_map part.Entry (find k table)) o ≡ option_map part.Entry (option_and_then (find k) o)
entry_part k None = refl
entry_part k (Some table) = refl

no_some : {A : Type 0} (o : Option A) → o ≡ None → ¬ IsSome o
no_some None e some = absurd cc
no_some (Some a) e some = absurd cc

none_is : {A : Type 0} (o : Option A) → ¬ IsSome o → o ≡ None
none_is None other = refl
none_is (Some a) other = absurd (other refl)

module _ (h : Here) (t k : List ℕ) (new : Entry) where
  pub is_there : HasPlace h.cur.now (t ∷ k ∷ []) → ¬ IsNew h t k new
  is_there there is = no_some (part_at h.cur.now (t ∷ k ∷ [])) is.lacks there

  pub is_none : None ≡ entry_at h.goal.now t k → ¬ IsNew h t k new
  is_none none is = apart is.entry (ap (option_map part.Entry) none ∙ sym (entry_part k (find t h.goal.now)) ∙ is.there)
    where
      apart : (e : Entry) → None ≡ Some (part.Entry e) → ⊥
      apart e same = cc

  pub new_test : (e : Entry) → ¬ HasPlace h.cur.now (t ∷ k ∷ []) → Some e ≡ entry_at h.goal.now t k → (b : Bool)
      → (IsTrue b ↔ ((new ≡ e) ⊎ IsSeed (rulebook h.ctx.now) h.goal.now t k e new)) → IsTrue b ↔ IsNew h t k new
  new_test e lacks is b says = (
    λ yes. record { entry = e; lacks = none_is (part_at h.cur.now (t ∷ k ∷ [])) lacks; there = there; alike = says.0 yes },
    λ new_one. says.1 (subst (λ u. (new ≡ u) ⊎ IsSeed (rulebook h.ctx.now) h.goal.now t k u new) (same_entry new_one.entry e (sym new_one.there ∙ there)) new_one.alike),
  )
    where
      there : part_at h.goal.now (t ∷ k ∷ []) ≡ Some (part.Entry e)
      there = entry_part k (find t h.goal.now) ∙ ap (option_map part.Entry) (sym is)

      same_entry : (u v : Entry) → Some (part.Entry u) ≡ Some (part.Entry v) → u ≡ v
      same_entry u v e = cc

-- ---- names and pairs

same_Some : {A : Type 0} (x y : A) → Some x ≡ Some y → x ≡ y
same_Some x y e = cc

pub two_names : (p : Place) (t k : List ℕ) → length p ≡ 2 → slice_get p 0 ≡ Some t → slice_get p 1 ≡ Some k → p ≡ t ∷ k ∷ []
two_names [] t k long first next = absurd (omega arith)
two_names (u ∷ []) t k long first next = absurd (omega arith)
two_names (u ∷ j ∷ []) t k long first next = let one = same_Some u t first in let two = same_Some j k next in λ i. one i ∷ two i ∷ []
two_names (u ∷ j ∷ f ∷ p) t k long first next = absurd (omega arith)

pub one_name : (p : Place) (t : List ℕ) → length p ≡ 1 → slice_get p 0 ≡ Some t → p ≡ t ∷ []
one_name [] t long first = absurd (omega arith)
one_name (u ∷ []) t long first = ap (λ n. n ∷ []) (same_Some u t first)
one_name (u ∷ j ∷ p) t long first = absurd (omega arith)

pub one_pair : (x : Table) (q : List ℕ × Entry) → length x ≡ 1 → slice_get x 0 ≡ Some q → x ≡ q ∷ []
one_pair [] q long first = absurd (omega arith)
one_pair (u ∷ []) q long first = ap (λ n. n ∷ []) (same_Some u q first)
one_pair (u ∷ j ∷ p) q long first = absurd (omega arith)
