-- What is given for the lists of the entries that both have is what the fifth generator gives.
use Rattle.std.proofs.Common.{◌≡◌, ◌≢◌, ◌↔◌, ◌⊎◌, ℕ, zero, suc, ◌+◌, ◌<◌, ◌≤◌, List, [], ◌∷◌, length, take, get_or, ◌++◌, add-one, Contains, IsTrue, Bool, true, false, inl, inr, refl, sym, ap, ◌∙◌, subst, true≢false, arith}
use Rattle.std.specs.Prelude.{Option, Some, None, option_and_then, slice_get}
use Rattle.conf_doc.specs.Changes.{part_at}
use Rattle.conf_doc.specs.Pairs.{find}
use Rattle.conf_doc.specs.declared.configuration.Config.{Config}
use Rattle.conf_doc.specs.declared.configuration.Entry.{Entry}
use Rattle.conf_doc.specs.declared.configuration.Value.{Value}
use Rattle.conf_doc.specs.declared.configuration.Value.TheVariants.{Text, List as Listed}
use Rattle.conf_doc.specs.declared.parts.Part.{Part}
use Rattle.conf_doc.specs.declared.parts.Part.TheVariants as part
use Rattle.move_core.specs.Generated.{IsFirstDifference, IsFromItems, IsItemMove, ListsDiffer, item_class}
use Rattle.move_core.specs.Moves.{Place, list_at, list_in, list_part}
use Rattle.move_core.specs.declared.moves.Generated.{Generated}
use Rattle.move_core.specs.declared.moves.Move.{Move}
use Rattle.move_core.specs.declared.moves.Move.TheVariants.{Add, Remove, Replace, AddItem, RemoveItem}
use Rattle.move_core.proofs.OperationResults.{list_names}
use Rattle.std.proofs.lemmas.Option.{slice_get-get_or, slice_get_within}
use Rattle.move_core.specs.Generated.{IsItemAdded}
use Rattle.move_gen.specs.Given.{IsOfTable, own_move}
use Rattle.move_gen.specs.Giving.{IsOfSome}
use Rattle.move_gen.specs.ItemsGiven.{HasNewItem, HasNoItems, IsAddedItem, IsItemAt, IsItemOfField, IsOfItems, IsOfItemsOfEntry, IsOfLists, IsRemovedItem}
use Rattle.move_gen.proofs.OwnPlaces.{of_its_place, owned}
use Rattle.move_gen.proofs.PlaceParts.{IsEntryAt, IsValueAt, entry_there, there_entry, there_value, value_there}

same_Some : {A : Type 0} (x y : A) → Some x ≡ Some y → x ≡ y
same_Some x y e = cc

-- ---- the first difference

taken_at : (i j : ℕ) (xs : List (List ℕ)) → i < j → slice_get (take j xs) i ≡ slice_get xs i
taken_at i zero xs less = absurd (omega arith)
taken_at i (suc j) [] less = refl
taken_at zero (suc j) (x ∷ xs) less = refl
taken_at (suc i) (suc j) (x ∷ xs) less = taken_at i j xs (omega arith)

alike_at : (old new : List (List ℕ)) (i j : ℕ) → i < j → take j old ≡ take j new → slice_get old i ≡ slice_get new i
alike_at old new i j less alike =
    sym (taken_at i j old less) ∙ ap (λ xs. slice_get xs i) alike ∙ taken_at i j new less

order : (a b : ℕ) → (a < b) ⊎ (b ≤ a)
order zero zero = inr (omega arith)
order zero (suc b) = inl (omega arith)
order (suc a) zero = inr (omega arith)
order (suc a) (suc b) = lifted (order a b)
  where
    lifted : (a < b) ⊎ (b ≤ a) → (suc a < suc b) ⊎ (suc b ≤ suc a)
    lifted (inl less) = inl (omega arith)
    lifted (inr rest) = inr (omega arith)

-- two lists have one first difference
one_first : (old new : List (List ℕ)) (i j : ℕ) → IsFirstDifference old new i → IsFirstDifference old new j → i ≡ j
one_first old new i j first second = by (order i j) (order j i)
  where
    by : (i < j) ⊎ (j ≤ i) → (j < i) ⊎ (i ≤ j) → i ≡ j
    by (inl less) other = absurd (first.differs (alike_at old new i j less second.before))
    by (inr rest) (inl more) = absurd (second.differs (alike_at old new j i more first.before))
    by (inr rest) (inr least) = omega arith

-- ---- how it is found

read_at : (xs : List (List ℕ)) (i : ℕ) (x : List ℕ) → i < length xs → x ≡ get_or xs i x → slice_get xs i ≡ Some x
read_at xs i x within is = slice_get-get_or xs i x within ∙ ap Some (sym is)

take_at : (xs : List (List ℕ)) (i : ℕ) (x : List ℕ) → slice_get xs i ≡ Some x → take (suc i) xs ≡ take i xs ++ x ∷ []
take_at [] i x is = absurd cc
take_at (y ∷ xs) zero x is = ap (λ z. z ∷ []) (same_Some y x is)
take_at (y ∷ xs) (suc i) x is = ap (λ zs. y ∷ zs) (take_at xs i x is)

-- two items that differ behind those that are alike
pub first_at : (old new : List (List ℕ)) (i : ℕ) (x y : List ℕ) (b : Bool) → take i old ≡ take i new → i < length old → i < length new → x ≡ get_or old i x → y ≡ get_or new i y
    → IsTrue b ↔ (x ≡ y) → b ≡ false → IsFirstDifference old new i
first_at old new i x y b alike in_old in_new is_old is_new says other = record {
  before = alike;
  differs = λ same. true≢false (sym (says.1 (same_Some x y (sym (read_at old i x in_old is_old) ∙ same ∙ read_at new i y in_new is_new))) ∙ other);
}

-- two that are alike
pub more_alike : (old new : List (List ℕ)) (i : ℕ) (x y : List ℕ) (b : Bool) → take i old ≡ take i new → i < length old → i < length new → x ≡ get_or old i x → y ≡ get_or new i y
    → IsTrue b ↔ (x ≡ y) → b ≡ true → take (i + 1) old ≡ take (i + 1) new
more_alike old new i x y b alike in_old in_new is_old is_new says same =
    rw add-one
    (take_at old i x (read_at old i x in_old is_old) ∙ (λ j. alike j ++ says.0 same j ∷ []) ∙ sym (take_at new i y (read_at new i y in_new is_new)))

take_all : (n : ℕ) (xs : List (List ℕ)) → length xs ≤ n → take n xs ≡ xs
take_all zero [] le = refl
take_all zero (x ∷ xs) le = absurd (omega arith)
take_all (suc n) [] le = refl
take_all (suc n) (x ∷ xs) le = ap (λ ys. x ∷ ys) (take_all n xs (omega arith))

-- all are alike
pub all_alike : (old new : List (List ℕ)) (n : ℕ) → take n old ≡ take n new → length old ≤ n → length new ≤ n → old ≡ new
all_alike old new n alike left right = sym (take_all n old left) ∙ alike ∙ take_all n new right

past : (xs : List (List ℕ)) (n : ℕ) → length xs ≤ n → slice_get xs n ≡ None
past [] n le = refl
past (x ∷ xs) zero le = absurd (omega arith)
past (x ∷ xs) (suc n) le = past xs n (omega arith)

-- one list ends where the other goes on
pub ends_apart : (old new : List (List ℕ)) (n : ℕ) → take n old ≡ take n new → (n < length old → length new ≤ n) → (n < length new → length old ≤ n) → n ≤ length old → n ≤ length new
    → length old ≢ length new → IsFirstDifference old new n
ends_apart old new n alike left right in_old in_new other = record { before = alike; differs = by (order n (length old)) (order n (length new)) }
  where
    by : (n < length old) ⊎ (length old ≤ n) → (n < length new) ⊎ (length new ≤ n) → slice_get old n ≢ slice_get new n
    by (inl more) rest same = let none = sym same ∙ slice_get-get_or old n [] more in let no = sym (past new n (left more)) ∙ none in cc
    by (inr end) (inl more) same = let none = same ∙ slice_get-get_or new n [] more in let no = sym (past old n end) ∙ none in cc
    by (inr end) (inr stop) same = other (omega arith)

-- ---- one list

is_remove : Move → Bool
is_remove (Add p x) = false
is_remove (Remove p) = false
is_remove (Replace p x) = false
is_remove (AddItem p i x) = false
is_remove (RemoveItem p i) = true

apart_item : (p q : Place) (i j : ℕ) (x : List ℕ) → RemoveItem p i ≡ AddItem q j x → ⊥
unfolding is_remove
apart_item p q i j x e = true≢false (ap is_remove e)

pub items_apart : (old new : List (List ℕ)) (p : Place) (i : ℕ) (g : Generated) → IsRemovedItem old new p i g → IsAddedItem old new p i g → ⊥
items_apart old new p i g removed added =
    apart_item p p i i added.0 (sym (ap (λ (x : Generated). x.mv) removed.1) ∙ ap (λ (x : Generated). x.mv) added.2)

-- goal's item at an index is one
pub no_item : (old new : List (List ℕ)) (i : ℕ) → length new ≤ i → ¬ HasNewItem old new i
no_item old new i end h = let within = slice_get_within new i h.0 h.1.0 in absurd (omega arith)

pub has_item : (old new : List (List ℕ)) (i : ℕ) (x : List ℕ) (b : Bool) → i < length new → x ≡ get_or new i x → IsTrue b ↔ Contains old x → b ≡ true → ¬ HasNewItem old new i
has_item old new i x b within is says there h =
    h.1.1 (subst (Contains old) (same_Some x h.0 (sym (read_at new i x within is) ∙ h.1.0)) (says.0 there))

pub new_item : (old new : List (List ℕ)) (i : ℕ) (x : List ℕ) (b : Bool) → i < length new → x ≡ get_or new i x → IsTrue b ↔ Contains old x → b ≡ false → IsItemAdded old new i x
new_item old new i x b within is says absent = (read_at new i x within is, λ has. true≢false (sym (says.1 has) ∙ absent))

pub of_item : (old new : List (List ℕ)) (p : Place) (i : ℕ) (x : List ℕ) → IsItemAdded old new i x → (g : Generated) → (g ≡ own_move (AddItem p i x) item_class) ↔ IsAddedItem old new p i g
of_item old new p i x adds g = (
  λ is. (x, adds, is),
  λ h. h.2 ∙ ap (λ y. own_move (AddItem p i y) item_class) (same_Some h.0 x (sym h.1.0 ∙ adds.0)),
)

pub no_added : (old new : List (List ℕ)) (p : Place) (i : ℕ) → ¬ HasNewItem old new i → (g : Generated) → ¬ IsAddedItem old new p i g
no_added old new p i none g h = none (h.0, h.1)

pub of_first : (old new : List (List ℕ)) (p : Place) (i : ℕ) → IsFirstDifference old new i → (g : Generated) → IsItemAt old new p i g ↔ IsOfItems old new p g
of_first old new p i first g = (
  λ is. record { index = i; first = first; is = is },
  λ h. subst (λ n. IsItemAt old new p n g) (one_first old new h.index i h.first first) h.is,
)

-- the same list has none
pub same_list : (old new : List (List ℕ)) (p : Place) → old ≡ new → (g : Generated) → ¬ IsOfItems old new p g
same_list old new p same g h = h.first.differs (ap (λ xs. slice_get xs h.index) same)

-- ---- one entry

-- a text has none
pub no_items : (v : Value) (s : List ℕ) → v ≡ Text s → HasNoItems v
no_items v s is p before g h = of_text before (subst (λ u. IsOfLists p before u g) is h)
  where
    of_text : (u : Value) → IsOfLists p u (Text s) g → ⊥
    of_text (Text t) h = h
    of_text (Listed ts) h = h

-- the value is the one that the field has
pub of_before : (t k f : List ℕ) (old : Entry) (u v : Value) → Some u ≡ find f old → (g : Generated) → IsOfLists (t ∷ k ∷ f ∷ []) u v g ↔ IsItemOfField t k old f v g
of_before t k f old u v there g = (
  λ is. record { before = u; there = sym there; is = is },
  λ h. subst (λ w. IsOfLists (t ∷ k ∷ f ∷ []) w v g) (same_Some h.before u (sym h.there ∙ sym there)) h.is,
)

-- cur's entry is the one at goal's place
pub of_entry : (cur : Config) (t k : List ℕ) (old new : Entry) (g : Generated) → Some (part.Entry old) ≡ part_at cur (t ∷ k ∷ []) → IsOfSome (IsItemOfField t k old) new g ↔ IsOfItemsOfEntry cur t k new g
of_entry cur t k old new g there = (
  λ is. record { old = old; there = sym there; is = is },
  λ h. subst (λ e. IsOfSome (IsItemOfField t k e) new g) (entry_is h.old old (sym h.there ∙ sym there)) h.is,
)
  where
    entry_is : (a b : Entry) → Some (part.Entry a) ≡ Some (part.Entry b) → a ≡ b
    entry_is a b e = cc

-- ---- all entries

-- a list that stands at a place, as a part
list_there : (o : Option Part) (items : List (List ℕ)) → option_and_then list_in o ≡ Some items → o ≡ Some (list_part items)
list_there None items is = absurd cc
list_there (Some (part.Table t)) items is = absurd cc
list_there (Some (part.Entry e)) items is = absurd cc
list_there (Some (part.Value (Text s))) items is = absurd cc
list_there (Some (part.Value (Listed ss))) items is = ap (λ ts. Some (list_part ts)) (same_Some ss items is)

value_is : (v : Value) (items : List (List ℕ)) → list_part items ≡ part.Value v → v ≡ Listed items
value_is v items e = cc

field_at : (c : Config) (t k f : List ℕ) (items : List (List ℕ)) → list_at c (t ∷ k ∷ f ∷ []) ≡ Some items → IsValueAt c t k f (Listed items)
field_at c t k f items is =
    let at = value_there c t k f (list_part items) (list_there (part_at c (t ∷ k ∷ f ∷ [])) items is) in
    subst (IsValueAt c t k f) (value_is at.0 items at.1) at.2

at_field : (c : Config) (t k f : List ℕ) (e : Entry) (items : List (List ℕ)) → IsEntryAt c t k e → find f e ≡ Some (Listed items) → list_at c (t ∷ k ∷ f ∷ []) ≡ Some items
at_field c t k f e items at is = ap (option_and_then list_in) (there_value c t k f e (Listed items) at is)

module _ (cur goal : Config) where
  by_lists : (t k f : List ℕ) (old new : List (List ℕ)) (g : Generated) → IsValueAt cur t k f (Listed old) → IsValueAt goal t k f (Listed new) → IsOfItems old new (t ∷ k ∷ f ∷ []) g
      → IsOfSome (IsOfTable (IsOfItemsOfEntry cur)) goal g
  by_lists t k f old new g before after is = record {
    name = t;
    part = after.at.table;
    there = after.at.there;
    is = record {
      name = k;
      part = after.entry;
      there = after.at.is;
      is = record {
        old = before.entry;
        there = there_entry cur t k before.entry before.at;
        is = record { name = f; part = Listed new; there = after.is; is = record { before = Listed old; there = before.is; is = is } };
      };
    };
  }

  forth_at : (p : Place) (i : ℕ) (lists : ListsDiffer cur goal p i) (g : Generated) → IsItemAt lists.old lists.new p i g → IsOfSome (IsOfTable (IsOfItemsOfEntry cur)) goal g
  forth_at p i lists g is =
      let at = list_names cur p lists.old lists.here in
      let q = at.table ∷ at.key ∷ at.field ∷ [] in
      by_lists at.table at.key at.field lists.old lists.new g
      (field_at cur at.table at.key at.field lists.old (subst (λ r. list_at cur r ≡ Some lists.old) at.names lists.here))
      (field_at goal at.table at.key at.field lists.new (subst (λ r. list_at goal r ≡ Some lists.new) at.names lists.there))
      (record { index = i; first = lists.first; is = subst (λ r. IsItemAt lists.old lists.new r i g) at.names is })

  forth : (m : Move) (g : Generated) → g ≡ own_move m item_class → IsItemMove cur goal m → IsOfSome (IsOfTable (IsOfItemsOfEntry cur)) goal g
  forth (Add p x) g e is = absurd is
  forth (Remove p) g e is = absurd is
  forth (Replace p x) g e is = absurd is
  forth (AddItem p i x) g e is = forth_at p i is.0 g (inr (x, is.1, e))
  forth (RemoveItem p i) g e is = forth_at p i is.0 g (inl (is.1, e))

  by_index : (t k f : List ℕ) (old new : List (List ℕ)) (i : ℕ) (g : Generated) (lists : ListsDiffer cur goal (t ∷ k ∷ f ∷ []) i) → lists.old ≡ old → lists.new ≡ new → IsItemAt old new (t ∷ k ∷ f ∷ []) i g
      → IsFromItems cur goal g
  by_index t k f old new i g lists first second (inl is) =
      owned (IsItemMove cur goal) (RemoveItem (t ∷ k ∷ f ∷ []) i) item_class g is.1
      (lists, rw (first, second) is.0)
  by_index t k f old new i g lists first second (inr is) =
      owned (IsItemMove cur goal) (AddItem (t ∷ k ∷ f ∷ []) i is.0) item_class g is.2
      (lists, rw (first, second) is.1)

  by_values : (t k f : List ℕ) (a b : Entry) (u v : Value) (g : Generated) → IsEntryAt cur t k a → IsEntryAt goal t k b → find f a ≡ Some u → find f b ≡ Some v → IsOfLists (t ∷ k ∷ f ∷ []) u v g → IsFromItems cur goal g
  by_values t k f a b (Text s) v g before after here there is = absurd is
  by_values t k f a b (Listed ss) (Text s) g before after here there is = absurd is
  by_values t k f a b (Listed old) (Listed new) g before after here there is =
      by_index t k f old new is.index g
      (record { old = old; new = new; here = at_field cur t k f a old before here; there = at_field goal t k f b new after there; first = is.first })
      refl refl is.is

  back : (g : Generated) → IsOfSome (IsOfTable (IsOfItemsOfEntry cur)) goal g → IsFromItems cur goal g
  back g h =
      let of = h.is.is in
      by_values h.name h.is.name of.is.name of.old h.is.part of.is.is.before of.is.part g (entry_there cur h.name h.is.name of.old of.there)
      (record { table = h.part; there = h.there; is = h.is.there }) of.is.is.there of.is.there of.is.is.is

  pub of_items : (g : Generated) → IsOfSome (IsOfTable (IsOfItemsOfEntry cur)) goal g ↔ IsFromItems cur goal g
  of_items g = (back g, λ is. forth g.mv g (of_its_place g item_class is.1 is.2) is.0)
