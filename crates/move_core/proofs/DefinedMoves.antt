-- Generated moves are defined at cur, and so are extensions of what is defined.
use Rattle.std.proofs.Common.{◌≡◌, ℕ, zero, suc, List, [], ◌∷◌, length, Option, Some, None, option_map, option_and_then, is_some, IsSome, IsSomeAnd, slice_get, if◌then◌else◌, refl, sym, ap, ◌∙◌, subst}
use Rattle.std.specs.Option.{option_map_or}
use Rattle.conf_doc.specs.Changes.{part_at, HasPlace, HasParent, Fits}
use Rattle.conf_doc.specs.Pairs.{find, IsRising}
use Rattle.conf_doc.specs.WellFormed.{Each, IsConfig, IsTable, IsEntry}
use Rattle.conf_doc.specs.declared.configuration.Config.{Config}
use Rattle.conf_doc.specs.declared.configuration.Entry.{Entry}
use Rattle.conf_doc.specs.declared.configuration.Table.{Table}
use Rattle.conf_doc.specs.declared.configuration.Value.{Value}
use Rattle.conf_doc.specs.declared.parts.Part.{Part}
use Rattle.conf_doc.specs.declared.parts.Part.TheVariants as part
use Rattle.conf_doc.proofs.Edits.{find_at}
use Rattle.conf_check.specs.declared.want_iter.WantPlace.{WantPlace}
use Rattle.std.proofs.lemmas.Option.{slice_get-map}
use Rattle.move_core.specs.Contexts.{field_names, names_of}
use Rattle.move_core.specs.Extensions.{put_value, upper, upper_place, IsUpper, IsDelete}
use Rattle.move_core.specs.Generated.{added_entry, IsTableMove, IsKeyRemove, IsFieldMove}
use Rattle.move_core.specs.Moves.{Place, list_at, list_in, list_part, IsDefined, Lacks}
use Rattle.move_core.specs.declared.moves.Move.{Move}
use Rattle.move_core.specs.declared.moves.Move.TheVariants.{Add, Remove, Replace, AddItem, RemoveItem}
use Rattle.move_core.proofs.OperationResults.{list_names, list_there, some_there}

-- ---- what stands at a place fits it

fits_value : (o : Option Value) (x : Part) → option_map part.Value o ≡ Some x → (t k f : List ℕ) → Fits (t ∷ k ∷ f ∷ []) x
fits_value None x e t k f = absurd cc
fits_value (Some v) (part.Table y) e t k f = absurd cc
fits_value (Some v) (part.Entry y) e t k f = absurd cc
fits_value (Some v) (part.Value y) e t k f = refl

fits_entry : (o : Option Entry) (x : Part) → option_map part.Entry o ≡ Some x → (t k : List ℕ) → Fits (t ∷ k ∷ []) x
fits_entry None x e t k = absurd cc
fits_entry (Some v) (part.Table y) e t k = absurd cc
fits_entry (Some v) (part.Entry y) e t k = refl
fits_entry (Some v) (part.Value y) e t k = absurd cc

fits_table : (o : Option Table) (x : Part) → option_map part.Table o ≡ Some x → (t : List ℕ) → Fits (t ∷ []) x
fits_table None x e t = absurd cc
fits_table (Some v) (part.Table y) e t = refl
fits_table (Some v) (part.Entry y) e t = absurd cc
fits_table (Some v) (part.Value y) e t = absurd cc

fits_in_table : (o : Option Table) (x : Part) (t k : List ℕ) → option_and_then (λ table. option_map part.Entry (find k table)) o ≡ Some x → Fits (t ∷ k ∷ []) x
fits_in_table None x t k e = absurd cc
fits_in_table (Some table) x t k e = fits_entry (find k table) x e t k

fits_in_entry : (o : Option Entry) (x : Part) (t k f : List ℕ) → option_and_then (λ entry. option_map part.Value (find f entry)) o ≡ Some x → Fits (t ∷ k ∷ f ∷ []) x
fits_in_entry None x t k f e = absurd cc
fits_in_entry (Some entry) x t k f e = fits_value (find f entry) x e t k f

fits_below : (o : Option Table) (x : Part) (t k f : List ℕ)
    → option_and_then (λ table. option_and_then (λ entry. option_map part.Value (find f entry)) (find k table)) o ≡ Some x → Fits (t ∷ k ∷ f ∷ []) x
fits_below None x t k f e = absurd cc
fits_below (Some table) x t k f e = fits_in_entry (find k table) x t k f e

pub fits_at : (c : Config) (p : Place) (x : Part) → part_at c p ≡ Some x → Fits p x
fits_at c [] x e = absurd cc
fits_at c (t ∷ []) x e = fits_table (find t c) x e t
fits_at c (t ∷ k ∷ []) x e = fits_in_table (find t c) x t k e
fits_at c (t ∷ k ∷ f ∷ []) x e = fits_below (find t c) x t k f e
fits_at c (t ∷ k ∷ f ∷ n ∷ ns) x e = absurd cc

-- ---- what stands above a place is there

entry_above : (o : Option Entry) (f : List ℕ) → IsSome (option_and_then (λ entry. option_map part.Value (find f entry)) o) → IsSome (option_map part.Entry o)
entry_above None f h = h
entry_above (Some entry) f h = refl

field_above : (o : Option Table) (k f : List ℕ)
    → IsSome (option_and_then (λ table. option_and_then (λ entry. option_map part.Value (find f entry)) (find k table)) o)
    → IsSome (option_and_then (λ table. option_map part.Entry (find k table)) o)
field_above None k f h = h
field_above (Some table) k f h = entry_above (find k table) f h

table_above : (o : Option Table) (k : List ℕ) → IsSome (option_and_then (λ table. option_map part.Entry (find k table)) o) → IsSome (option_map part.Table o)
table_above None k h = h
table_above (Some table) k h = refl

same_Some : {A : Type 0} (x y : A) → Some x ≡ Some y → x ≡ y
same_Some x y e = cc

upper_there : (c : Config) (p q : Place) → upper p ≡ Some q → HasPlace c p → HasPlace c q
upper_there c [] q e h = absurd cc
upper_there c (t ∷ []) q e h = absurd cc
upper_there c (t ∷ k ∷ []) q e h = subst (HasPlace c) (same_Some _ _ e) (table_above (find t c) k h)
upper_there c (t ∷ k ∷ f ∷ []) q e h = subst (HasPlace c) (same_Some _ _ e) (field_above (find t c) k f h)
upper_there c (t ∷ k ∷ f ∷ n ∷ ns) q e h = absurd cc

parent_there : (c : Config) (p q : Place) → upper p ≡ Some q → HasParent c p → HasPlace c q
parent_there c [] q e h = absurd cc
parent_there c (t ∷ []) q e h = absurd cc
parent_there c (t ∷ k ∷ []) q e h = subst (HasPlace c) (same_Some _ _ e) h
parent_there c (t ∷ k ∷ f ∷ []) q e h = subst (HasPlace c) (same_Some _ _ e) h
parent_there c (t ∷ k ∷ f ∷ n ∷ ns) q e h = absurd cc

-- a list that stands at a place is there
some_below : {A B : Type 0} (g : A → Option B) (o : Option A) (b : B) → option_and_then g o ≡ Some b → IsSome o
some_below g None b is = absurd cc
some_below g (Some a) b is = refl

pub list_place : (c : Config) (p : Place) {items : List (List ℕ)} → list_at c p ≡ Some items → HasPlace c p
list_place c p {items = items} is = some_below list_in (part_at c p) items is

-- its place has three names, and an entry above
pub list_fits : (c : Config) (p : Place) (items new : List (List ℕ)) → list_at c p ≡ Some items → Fits p (list_part new)
list_fits c p items new is = let at = list_names c p items is in ap length at.names

pub list_parent : (c : Config) (p : Place) (items : List (List ℕ)) → list_at c p ≡ Some items → HasParent c p
list_parent c p items is =
    let at = list_names c p items is in
    let q = at.table ∷ at.key ∷ at.field ∷ [] in
    subst (HasParent c) (sym at.names)
    (upper_there c q _ refl (subst (HasPlace c) at.names (list_place c p is)))

above_there : (c : Config) (m : Move) (q : Place) → IsDefined c m → upper_place m ≡ Some q → HasPlace c q
above_there c (Add p x) q is e = parent_there c p q e is.1
above_there c (Remove p) q is e = upper_there c p q e is
above_there c (Replace p x) q is e = upper_there c p q e is.1
above_there c (AddItem p i x) q is e = subst (HasPlace c) (same_Some _ _ e) (list_place c p (list_there (list_at c p) is).1)
above_there c (RemoveItem p i) q is e = subst (HasPlace c) (same_Some _ _ e) (list_place c p (list_there (list_at c p) is).1)

-- ---- extensions

pub some_and : {A : Type 0} {P : A → Type 0} (o : Option A) → IsSomeAnd o P → (a : A) × (o ≡ Some a) × P a
some_and None h = absurd h
some_and (Some a) h = (a, refl, h)

goal_there : (cur goal : Config) (q : Place) (o : Option Part) → part_at goal q ≡ o → HasPlace cur q
    → IsDefined cur (option_map_or (Replace q) o (Remove q))
goal_there cur goal q None e h = h
goal_there cur goal q (Some x) e h = (fits_at goal q x e, h)

pub upper_defined : (cur goal : Config) (m x : Move) → IsDefined cur m → IsUpper goal m x → IsDefined cur x
upper_defined cur goal m x is up =
    let at = some_and (upper_place m) up in
    subst (IsDefined cur) (sym at.2) (goal_there cur goal at.0 (part_at goal at.0) refl (above_there cur m at.0 is at.1))

pub delete_defined : (cur : Config) (m x : Move) → IsDefined cur m → IsDelete m x → IsDefined cur x
delete_defined cur (Add p v) x is del = absurd del
delete_defined cur (Remove p) x is del = absurd del
delete_defined cur (Replace p v) x is del = subst (IsDefined cur) (sym del) is.1
delete_defined cur (AddItem p i v) x is del = absurd del
delete_defined cur (RemoveItem p i) x is del = absurd del

put_there : (cur : Config) (t k f : List ℕ) (v : Value) (o : Option Part) → part_at cur (t ∷ k ∷ f ∷ []) ≡ o → HasPlace cur (t ∷ k ∷ [])
    → IsDefined cur (if is_some o then Replace (t ∷ k ∷ f ∷ []) (part.Value v) else Add (t ∷ k ∷ f ∷ []) (part.Value v))
put_there cur t k f v None e h = (refl, h, e)
put_there cur t k f v (Some x) e h = (refl, some_there e)

pub put_defined : (cur : Config) (t k f : List ℕ) (v : Value) → HasPlace cur (t ∷ k ∷ []) → IsDefined cur (put_value cur (t ∷ k ∷ f ∷ []) (part.Value v))
put_defined cur t k f v h = put_there cur t k f v (part_at cur (t ∷ k ∷ f ∷ [])) refl h

-- ---- places given by positions

at_name : {A : Type 0} (ps : List (List ℕ × A)) (i : ℕ) (p : List ℕ × A) → IsRising ps → slice_get ps i ≡ Some p → find p.0 ps ≡ Some p.1
at_name ps i p rising e =
    find_at ps p.0 i rising (slice_get-map (λ q. q.0) ps i ∙ ap (option_map (λ q. q.0)) e)
    ∙ slice_get-map (λ q. q.1) ps i ∙ ap (option_map (λ q. q.1)) e

each_at : {A : Type 0} (P : A → Type 0) (ps : List (List ℕ × A)) (i : ℕ) (p : List ℕ × A) → Each P ps → slice_get ps i ≡ Some p → P p.1
each_at P [] i p each e = absurd cc
each_at P (q ∷ ps) zero p each e = subst (λ r. P r.1) (same_Some _ _ e) each.0
each_at P (q ∷ ps) (suc i) p each e = each_at P ps i p each.1 e

entry_there : (c : Config) (t k : List ℕ) (table : Table) (entry : Entry) → find t c ≡ Some table → find k table ≡ Some entry → HasPlace c (t ∷ k ∷ [])
entry_there c t k table entry first second = some_there (ap (option_and_then (λ x. option_map part.Entry (find k x))) first ∙ ap (option_map part.Entry) second)

field_there : (c : Config) (t k f : List ℕ) (table : Table) (entry : Entry) (v : Value) → find t c ≡ Some table → find k table ≡ Some entry → find f entry ≡ Some v
    → HasPlace c (t ∷ k ∷ f ∷ [])
field_there c t k f table entry v first second third =
    some_there (ap (option_and_then (λ x. option_and_then (λ y. option_map part.Value (find f y)) (find k x))) first
    ∙ ap (option_and_then (λ y. option_map part.Value (find f y))) second ∙ ap (option_map part.Value) third)

module _ (c : Config) (formed : IsConfig c) (p : Place) where
  module _ (i : ℕ) (t : List ℕ × Table) (is_t : slice_get c i ≡ Some t) (j : ℕ) (e : List ℕ × Entry) (is_e : slice_get t.1 j ≡ Some e) where
    table_is : find t.0 c ≡ Some t.1
    table_is = at_name c i t formed.shaped.rising is_t

    entry_is : find e.0 t.1 ≡ Some e.1
    entry_is = at_name t.1 j e (each_at IsTable c i t formed.parts is_t).shaped.rising is_e

    entry_formed : IsEntry e.1
    entry_formed = each_at IsEntry t.1 j e (each_at IsTable c i t formed.parts is_t).parts is_e

    at_field : (l : ℕ) (o : Option (List ℕ × Value)) → slice_get e.1 l ≡ o
        → option_map (λ f. t.0 ∷ e.0 ∷ f) (option_map (λ f. f.0 ∷ []) o) ≡ Some p → HasPlace c p
    at_field l None is names = absurd cc
    at_field l (Some f) is names =
        subst (HasPlace c) (same_Some _ _ names)
        (field_there c t.0 e.0 f.0 t.1 e.1 f.1 table_is entry_is (at_name e.1 l f entry_formed.shaped.rising is))

    at_fields : (field : Option ℕ) → option_map (λ f. t.0 ∷ e.0 ∷ f) (field_names e.1 field) ≡ Some p → HasPlace c p
    at_fields None names = subst (HasPlace c) (same_Some _ _ names) (entry_there c t.0 e.0 t.1 e.1 table_is entry_is)
    at_fields (Some l) names = at_field l (slice_get e.1 l) refl names

  at_entry : (i : ℕ) (t : List ℕ × Table) → slice_get c i ≡ Some t → (j : ℕ) (o : Option (List ℕ × Entry)) → slice_get t.1 j ≡ o → (field : Option ℕ)
      → option_and_then (λ e. option_map (λ f. t.0 ∷ e.0 ∷ f) (field_names e.1 field)) o ≡ Some p → HasPlace c p
  at_entry i t is j None at field names = absurd cc
  at_entry i t is j (Some e) at field names = at_fields i t is j e at field names

  at_table : (at : WantPlace) (o : Option (List ℕ × Table)) → slice_get c at.table ≡ o
      → option_and_then (λ t. option_and_then (λ e. option_map (λ f. t.0 ∷ e.0 ∷ f) (field_names e.1 at.field)) (slice_get t.1 at.key)) o ≡ Some p → HasPlace c p
  at_table at None is names = absurd cc
  at_table at (Some t) is names = at_entry at.table t is at.key (slice_get t.1 at.key) refl at.field names

  -- the value of a field at positions stands at its names
  pub value_here : (i : ℕ) (t : List ℕ × Table) → slice_get c i ≡ Some t → (j : ℕ) (e : List ℕ × Entry) → slice_get t.1 j ≡ Some e → (l : ℕ) (f : List ℕ × Value) → slice_get e.1 l ≡ Some f
      → part_at c (t.0 ∷ e.0 ∷ f.0 ∷ []) ≡ Some (part.Value f.1)
  value_here i t is_t j e is_e l f is_f =
      ap (option_and_then (λ x. option_and_then (λ y. option_map part.Value (find f.0 y)) (find e.0 x))) (table_is i t is_t j e is_e)
      ∙ ap (option_and_then (λ y. option_map part.Value (find f.0 y))) (entry_is i t is_t j e is_e)
      ∙ ap (option_map part.Value) (at_name e.1 l f (entry_formed i t is_t j e is_e).shaped.rising is_f)

  -- the place that positions name is there
  pub names_there : (at : WantPlace) → names_of c at ≡ Some p → HasPlace c p
  names_there at names = at_table at (slice_get c at.table) refl names

-- ---- generated moves

pub table_defined : (cur goal : Config) (m : Move) → IsTableMove cur goal m → IsDefined cur m
table_defined cur goal (Add [] x) is = absurd cc
table_defined cur goal (Add (t ∷ []) x) is = (fits_at goal (t ∷ []) x is.2, tt, is.1)
table_defined cur goal (Add (t ∷ k ∷ p) x) is = absurd cc
table_defined cur goal (Remove p) is = is.1
table_defined cur goal (Replace p x) is = absurd is
table_defined cur goal (AddItem p i x) is = absurd is
table_defined cur goal (RemoveItem p i) is = absurd is

pub key_remove_defined : (cur goal : Config) (m : Move) → IsKeyRemove cur goal m → IsDefined cur m
key_remove_defined cur goal (Add p x) is = absurd is
key_remove_defined cur goal (Remove p) is = is.1
key_remove_defined cur goal (Replace p x) is = absurd is
key_remove_defined cur goal (AddItem p i x) is = absurd is
key_remove_defined cur goal (RemoveItem p i) is = absurd is

pub field_defined : (cur goal : Config) (m : Move) → IsFieldMove cur goal m → IsDefined cur m
field_defined cur goal (Add p x) is = (fits_at goal p x is.3, is.1, is.2)
field_defined cur goal (Remove p) is = is.2
field_defined cur goal (Replace p x) is = (fits_at goal p x is.2, is.1)
field_defined cur goal (AddItem p i x) is = absurd is
field_defined cur goal (RemoveItem p i) is = absurd is

added_by : (cur : Config) (t k : List ℕ) (e : Entry) (o : Option Table) → find t cur ≡ o → Lacks cur (t ∷ k ∷ [])
    → IsDefined cur (if is_some o then Add (t ∷ k ∷ []) (part.Entry e) else Add (t ∷ []) (part.Table ((k, e) ∷ [])))
added_by cur t k e None is lacks = (refl, tt, ap (option_map part.Table) is)
added_by cur t k e (Some table) is lacks = (refl, some_there (ap (option_map part.Table) is), lacks)

pub added_defined : (cur : Config) (t k : List ℕ) (e : Entry) → Lacks cur (t ∷ k ∷ []) → IsDefined cur (added_entry cur t k e)
added_defined cur t k e lacks = added_by cur t k e (find t cur) refl lacks
