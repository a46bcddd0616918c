-- Lists that take moves, one after another.
use Rattle.std.proofs.Common.{◌≡◌, ◌⊎◌, ℕ, zero, suc, ◌+◌, ◌<◌, ◌≤◌, List, [], ◌∷◌, ◌++◌, length, take, slice_get, Contains, Option, Some, None, IsSomeAnd, inl, inr, sym, ap, ◌∙◌, subst, arith}
use Rattle.std.proofs.lemmas.Bool.{cases_lt}
use Rattle.std.proofs.lemmas.List.{take_all}
use Rattle.std.proofs.lemmas.Option.{slice_get_within}
use Rattle.std.proofs.lemmas.List.Elements.{Contains-append_cases, Contains-append_left, Contains-append_right}
use Rattle.conf_doc.proofs.Lists.{take_more}
use Rattle.move_core.specs.Moves.{Place, list_at}
use Rattle.move_core.specs.declared.moves.Move.{Move}
use Rattle.move_core.specs.declared.moves.Move.TheVariants.{Add, AddItem, RemoveItem, Replace}
use Rattle.conf_doc.specs.Changes.{part_at}
use Rattle.conf_doc.specs.declared.parts.Part.{Part}
use Rattle.plan_check.specs.Candidates.{AddsItemAt, GivesRequired, IsGoalsAt, IsOfOne, IsPut, RemovesItemAt, Takes}
use Rattle.move_core.specs.Extensions.{required_part}
use Rattle.move_core.specs.declared.settings.Required.{Required}
use Rattle.plan_check.specs.declared.here.Here.{Here}

pub none_in : {A : Type 0} (a : A) → ¬ Contains [] a
none_in a has = absurd (omega (arith, has.1))

pub only_one : {A : Type 0} (x a : A) → Contains (x ∷ []) a → a ≡ x
only_one x a (zero, lt, is) = sym is
only_one x a (suc k, lt, is) = absurd (omega arith)

-- a list takes none where there is none
pub takes_none : (P : Move → Type 0) (ms : List Move) → ((m : Move) → ¬ P m) → Takes P ms ms
takes_none P ms none = record { kept = λ m has. has; all = λ m is. absurd (none m is) }

-- it takes one that is put at the end
pub takes_one : (ms new : List Move) (x : Move) → new ≡ ms ++ x ∷ [] → Takes (λ m. m ≡ x) ms new
takes_one ms new x is = record {
  kept = λ m has. subst (λ l. Contains l m) (sym is) (Contains-append_left ms (x ∷ []) m has);
  all = λ m same. subst (λ l. Contains l m) (sym is) (Contains-append_right ms (x ∷ []) m (0, omega arith, sym same));
}

-- one after another
pub takes_both : (P Q : Move → Type 0) (a b c : List Move) → Takes P a b → Takes Q b c → Takes (λ m. P m ⊎ Q m) a c
takes_both P Q a b c one two = record {
  kept = λ m has. two.kept m (one.kept m has);
  all = λ m is. by m is;
}
  where
    by : (m : Move) → P m ⊎ Q m → Contains c m
    by m (inl is) = two.kept m (one.all m is)
    by m (inr is) = two.all m is

-- fewer
pub takes_as : (P Q : Move → Type 0) (a b : List Move) → ((m : Move) → Q m → P m) → Takes P a b → Takes Q a b
takes_as P Q a b fewer is = record { kept = is.kept; all = λ m q. is.all m (fewer m q) }

-- ---- of each of some items

module _ {A : Type 0} (P : A → Move → Type 0) (xs : List A) where
  pub takes_first : (ms : List Move) → Takes (IsOfOne P (take 0 xs)) ms ms
  takes_first ms = takes_none (IsOfOne P (take 0 xs)) ms (λ m is. none_in is.item is.there)

  pub takes_more : (i : ℕ) (x : A) (a b c : List Move) → slice_get xs i ≡ Some x → Takes (IsOfOne P (take i xs)) a b → Takes (P x) b c
      → Takes (IsOfOne P (take (i + 1) xs)) a c
  takes_more i x a b c at before here =
      takes_as (λ m. IsOfOne P (take i xs) m ⊎ P x m) (IsOfOne P (take (i + 1) xs)) a c split
      (takes_both (IsOfOne P (take i xs)) (P x) a b c before here)
    where
      by : (m : Move) (y : A) → P y m → Contains (take i xs) y ⊎ Contains (x ∷ []) y → IsOfOne P (take i xs) m ⊎ P x m
      by m y is (inl has) = inl (record { item = y; there = has; is = is })
      by m y is (inr has) = inr (subst (λ z. P z m) (only_one x y has) is)

      split : (m : Move) → IsOfOne P (take (i + 1) xs) m → IsOfOne P (take i xs) m ⊎ P x m
      split m is = by m is.item is.is (Contains-append_cases (take i xs) (x ∷ []) is.item (subst (λ l. Contains l is.item) (take_more xs i x at) is.there))

  pub takes_all : (i : ℕ) (a b : List Move) → length xs ≤ i → Takes (IsOfOne P (take i xs)) a b → Takes (IsOfOne P xs) a b
  takes_all i a b end is = subst (λ l. Takes (IsOfOne P l) a b) (take_all i xs end) is

-- ---- of items of a list

-- the remove of an item before an index
pub record RemovesBelow (p : Place) (n : ℕ) (m : Move) : Type 0 where
  pub i : ℕ
  pub below : i < n
  pub move : m ≡ RemoveItem p i

pub removes_first : (p : Place) (ms : List Move) → Takes (RemovesBelow p 0) ms ms
removes_first p ms = takes_none (RemovesBelow p 0) ms (λ m is. let below = is.below in absurd (omega (arith, below)))

pub removes_more : (p : Place) (n : ℕ) (a b c : List Move) → Takes (RemovesBelow p n) a b → c ≡ b ++ RemoveItem p n ∷ [] → Takes (RemovesBelow p (n + 1)) a c
removes_more p n a b c before is =
    takes_as (λ m. RemovesBelow p n m ⊎ (m ≡ RemoveItem p n)) (RemovesBelow p (n + 1)) a c split
    (takes_both (RemovesBelow p n) (λ m. m ≡ RemoveItem p n) a b c before (takes_one b c (RemoveItem p n) is))
  where
    split : (m : Move) → RemovesBelow p (n + 1) m → RemovesBelow p n m ⊎ (m ≡ RemoveItem p n)
    split m r = elim (cases_lt r.i n) as (λ _. RemovesBelow p n m ⊎ (m ≡ RemoveItem p n)) [
      | inl old ↦ inl (record { i = r.i; below = old; move = r.move })
      | inr new ↦ let below = r.below in let same : r.i ≡ n = omega (arith, below, new) in inr (r.move ∙ ap (RemoveItem p) same)
    ]

-- all of the list's items
pub removes_all : (h : Here) (p : Place) (items : List (List ℕ)) (n : ℕ) (a b : List Move) → list_at h.cur.now p ≡ Some items → length items ≤ n
    → Takes (RemovesBelow p n) a b → Takes (RemovesItemAt h p) a b
removes_all h p items n a b at end takes = takes_as (RemovesBelow p n) (RemovesItemAt h p) a b fewer takes
  where
    fewer : (m : Move) → RemovesItemAt h p m → RemovesBelow p n m
    fewer m is =
        let within : is.i < length items = subst (λ o. IsSomeAnd o (λ l. is.i < length l)) at is.there in
        record { i = is.i; below = omega (arith, within, end); move = is.move }

pub no_removes : (h : Here) (p : Place) (a : List Move) → list_at h.cur.now p ≡ None → Takes (RemovesItemAt h p) a a
no_removes h p a none =
    takes_none (RemovesItemAt h p) a (λ m is. absurd (subst (λ (o : Option (List (List ℕ))). IsSomeAnd o (λ l. is.i < length l)) none is.there))

-- the add of one of those items before an index
pub record AddsBelow (p : Place) (items : List (List ℕ)) (n : ℕ) (m : Move) : Type 0 where
  pub i : ℕ
  pub text : List ℕ
  pub below : i < n
  pub at : slice_get items i ≡ Some text
  pub move : m ≡ AddItem p i text

pub adds_first : (p : Place) (items : List (List ℕ)) (ms : List Move) → Takes (AddsBelow p items 0) ms ms
adds_first p items ms = takes_none (AddsBelow p items 0) ms (λ m is. let below = is.below in absurd (omega (arith, below)))

pub adds_more : (p : Place) (items : List (List ℕ)) (n : ℕ) (text : List ℕ) (a b c : List Move) → slice_get items n ≡ Some text
    → Takes (AddsBelow p items n) a b → c ≡ b ++ AddItem p n text ∷ [] → Takes (AddsBelow p items (n + 1)) a c
adds_more p items n text a b c at before is =
    takes_as (λ m. AddsBelow p items n m ⊎ (m ≡ AddItem p n text)) (AddsBelow p items (n + 1)) a c split
    (takes_both (AddsBelow p items n) (λ m. m ≡ AddItem p n text) a b c before (takes_one b c (AddItem p n text) is))
  where
    same_Some : (x y : List ℕ) → Some x ≡ Some y → x ≡ y
    same_Some x y e = cc

    split : (m : Move) → AddsBelow p items (n + 1) m → AddsBelow p items n m ⊎ (m ≡ AddItem p n text)
    split m r = elim (cases_lt r.i n) as (λ _. AddsBelow p items n m ⊎ (m ≡ AddItem p n text)) [
      | inl old ↦ inl (record { i = r.i; text = r.text; below = old; at = r.at; move = r.move })
      | inr new ↦
          let below = r.below in
          let same : r.i ≡ n = omega (arith, below, new) in
          let word : r.text ≡ text = same_Some r.text text (sym r.at ∙ ap (slice_get items) same ∙ at) in
          inr (r.move ∙ (λ j. AddItem p (same j) (word j)))
    ]

-- all of the list's items
pub adds_all : (h : Here) (p : Place) (items : List (List ℕ)) (n : ℕ) (a b : List Move) → list_at h.goal.now p ≡ Some items → length items ≤ n
    → Takes (AddsBelow p items n) a b → Takes (AddsItemAt h p) a b
adds_all h p items n a b at end takes = takes_as (AddsBelow p items n) (AddsItemAt h p) a b fewer takes
  where
    fewer : (m : Move) → AddsItemAt h p m → AddsBelow p items n m
    fewer m is =
        let there : slice_get items is.i ≡ Some is.text = subst (λ o. IsSomeAnd o (λ l. slice_get l is.i ≡ Some is.text)) at is.there in
        let within = slice_get_within items is.i is.text there in
        record { i = is.i; text = is.text; below = omega (arith, within, end); at = there; move = is.move }

pub no_adds : (h : Here) (p : Place) (a : List Move) → list_at h.goal.now p ≡ None → Takes (AddsItemAt h p) a a
no_adds h p a none =
    takes_none (AddsItemAt h p) a
    (λ m is. absurd (subst (λ (o : Option (List (List ℕ))). IsSomeAnd o (λ l. slice_get l is.i ≡ Some is.text)) none is.there))

-- ---- parts that are put

pub puts_goals : (h : Here) (p q : Place) (x : Part) (a b : List Move) → part_at h.goal.now p ≡ Some x → q ≡ p → Takes (IsPut q x) a b → Takes (IsGoalsAt h p) a b
puts_goals h p q x a b there same takes = takes_as (IsPut q x) (IsGoalsAt h p) a b fewer takes
  where
    same_Some : (u v : Part) → Some u ≡ Some v → u ≡ v
    same_Some u v e = cc

    fewer : (m : Move) → IsGoalsAt h p m → IsPut q x m
    fewer m is =
        let part : is.part ≡ x = same_Some is.part x (sym is.there ∙ there) in
        subst (λ y. IsPut q y m) part (subst (λ r. IsPut r is.part m) (sym same) is.puts)

pub no_goals : (h : Here) (p : Place) (a : List Move) → part_at h.goal.now p ≡ None → Takes (IsGoalsAt h p) a a
no_goals h p a none = takes_none (IsGoalsAt h p) a (λ m is. apart is.part (sym none ∙ is.there))
  where
    apart : (x : Part) → None ≡ Some x → ⊥
    apart x e = cc

pub puts_both : (p : Place) (x : Part) (a b c : List Move) (first then : Move) → first ≡ Replace p x → then ≡ Add p x → b ≡ a ++ first ∷ [] → c ≡ b ++ then ∷ [] → Takes (IsPut p x) a c
puts_both p x a b c first then one two is more =
    takes_both (λ m. m ≡ Replace p x) (λ m. m ≡ Add p x) a b c
    (takes_one a b (Replace p x) (is ∙ ap (λ m. a ++ m ∷ []) one)) (takes_one b c (Add p x) (more ∙ ap (λ m. b ++ m ∷ []) two))

-- a rule's value is put, where the rule is for that table
pub puts_required : (t k : List ℕ) (r : Required) (p : Place) (x : Part) (a b : List Move) → p ≡ t ∷ k ∷ r.field ∷ [] → x ≡ required_part r → Takes (IsPut p x) a b → Takes (GivesRequired t k r) a b
puts_required t k r p x a b place value takes =
    takes_as (IsPut p x) (GivesRequired t k r) a b (λ m is. subst (λ y. IsPut p y m) (sym value) (subst (λ q. IsPut q (required_part r) m) (sym place) is.1)) takes

pub other_table : (t k : List ℕ) (r : Required) (a : List Move) → ¬ (r.table ≡ t) → Takes (GivesRequired t k r) a a
other_table t k r a other = takes_none (GivesRequired t k r) a (λ m is. other is.0)
