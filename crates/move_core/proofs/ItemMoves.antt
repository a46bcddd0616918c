-- Items of lists: moves of them are defined, and so is the removal of what has a want.
use Rattle.std.proofs.Common.{◌≡◌, ℕ, zero, suc, ◌<◌, ◌≤◌, List, [], ◌∷◌, length, take, Bool, true, false, Option, Some, None, option_map, option_and_then, is_some, IsSomeAnd, slice_get, if◌then◌else◌, refl, sym, ap, ◌∙◌, subst, arith}
use Rattle.std.proofs.lemmas.List.{length-take-le}
use Rattle.std.proofs.lemmas.Option.{slice_get_within}
use Rattle.conf_doc.specs.Changes.{part_at}
use Rattle.conf_doc.specs.WellFormed.{IsConfig}
use Rattle.conf_doc.specs.declared.configuration.Config.{Config}
use Rattle.conf_doc.specs.declared.configuration.Entry.{Entry}
use Rattle.conf_doc.specs.declared.configuration.Table.{Table}
use Rattle.conf_doc.specs.declared.configuration.Value.{Value}
use Rattle.conf_doc.specs.declared.configuration.Value.TheVariants.{Text, List as Listed}
use Rattle.conf_doc.specs.declared.parts.Part.TheVariants as part
use Rattle.conf_check.specs.Rows.{if_modelled, row_at, row_of, rule_of, texts_by_kind, texts_of, typed_item, typed_text, Row}
use Rattle.conf_check.specs.Wants.{Want}
use Rattle.conf_check.specs.declared.want_iter.WantPlace.{WantPlace}
use Rattle.yang_model.specs.ModelSets.{ModelSet, table_named}
use Rattle.yang_model.specs.declared.shapes.FieldRule.{FieldRule}
use Rattle.yang_model.specs.declared.shapes.Shape.{Shape}
use Rattle.yang_types.specs.DataType.{DataType}
use Rattle.yang_types.specs.DataTypes.{data_type}
use Rattle.move_core.specs.Contexts.{HasWant, field_names, names_of}
use Rattle.move_core.specs.Extensions.{removal}
use Rattle.move_core.specs.Generated.{IsItemMove}
use Rattle.move_core.specs.Moves.{IsDefined, Place, list_at, list_in}
use Rattle.move_core.specs.declared.moves.Move.{Move}
use Rattle.move_core.specs.declared.moves.Move.TheVariants.{Add, Remove, Replace, AddItem, RemoveItem}
use Rattle.move_core.proofs.DefinedMoves.{names_there, some_and, value_here}
use Rattle.move_core.proofs.OperationResults.{ListNames, list_names}

same_Some : {A : Type 0} (x y : A) → Some x ≡ Some y → x ≡ y
same_Some x y e = cc

some_list : (P : List (List ℕ) → Type 0) (o : Option (List (List ℕ))) (items : List (List ℕ)) → o ≡ Some items → P items → IsSomeAnd o P
some_list P o items is holds = subst (λ q. IsSomeAnd q P) (sym is) holds

-- ---- generated moves

some_taken : (old new : List (List ℕ)) (i : ℕ) (x : List ℕ) → take i old ≡ take i new → slice_get new i ≡ Some x → i ≤ length old
some_taken old new i x alike there =
    let within = slice_get_within new i x there in
    let long : length (take i new) ≡ i = length-take-le i new (omega arith) in
    let same : length (take i old) ≡ i = ap length alike ∙ long in
    at_least i old same
  where
    at_least : (n : ℕ) (xs : List (List ℕ)) → length (take n xs) ≡ n → n ≤ length xs
    at_least zero xs is = omega arith
    at_least (suc n) [] is = absurd (omega arith)
    at_least (suc n) (x ∷ xs) is = omega (arith, at_least n xs (omega arith))

pub item_defined : (cur goal : Config) (m : Move) → IsItemMove cur goal m → IsDefined cur m
item_defined cur goal (Add p x) is = absurd is
item_defined cur goal (Remove p) is = absurd is
item_defined cur goal (Replace p x) is = absurd is
item_defined cur goal (AddItem p i x) is =
    some_list (λ items. i ≤ length items) (list_at cur p) is.0.old is.0.here (some_taken is.0.old is.0.new i x is.0.first.before is.1.0)
item_defined cur goal (RemoveItem p i) is =
    let at = some_and (slice_get is.0.old i) is.1 in
    some_list (λ items. i < length items) (list_at cur p) is.0.old is.0.here (slice_get_within is.0.old i at.0 at.1)

-- ---- what has a want

-- the field at positions whose names are a place
record NamedField (c : Config) (p : Place) (at : WantPlace) (l : ℕ) : Type 0 where
  table : List ℕ × Table
  entry : List ℕ × Entry
  field : List ℕ × Value
  is_table : slice_get c at.table ≡ Some table
  is_entry : slice_get table.1 at.key ≡ Some entry
  is_field : slice_get entry.1 l ≡ Some field
  names : p ≡ table.0 ∷ entry.0 ∷ field.0 ∷ []

module _ (c : Config) (p : Place) (at : WantPlace) (l : ℕ) where
  in_field : (t : List ℕ × Table) → slice_get c at.table ≡ Some t → (e : List ℕ × Entry) → slice_get t.1 at.key ≡ Some e → (o : Option (List ℕ × Value)) → slice_get e.1 l ≡ o
      → option_map (λ f. t.0 ∷ e.0 ∷ f) (option_map (λ f. f.0 ∷ []) o) ≡ Some p → NamedField c p at l
  in_field t is_t e is_e None is_f names = absurd cc
  in_field t is_t e is_e (Some f) is_f names =
      record { table = t; entry = e; field = f; is_table = is_t; is_entry = is_e; is_field = is_f; names = sym (same_Some _ _ names) }

  in_entry : (t : List ℕ × Table) → slice_get c at.table ≡ Some t → (o : Option (List ℕ × Entry)) → slice_get t.1 at.key ≡ o
      → option_and_then (λ e. option_map (λ f. t.0 ∷ e.0 ∷ f) (field_names e.1 (Some l))) o ≡ Some p → NamedField c p at l
  in_entry t is_t None is_e names = absurd cc
  in_entry t is_t (Some e) is_e names = in_field t is_t e is_e (slice_get e.1 l) refl names

  in_table : (o : Option (List ℕ × Table)) → slice_get c at.table ≡ o
      → option_and_then (λ t. option_and_then (λ e. option_map (λ f. t.0 ∷ e.0 ∷ f) (field_names e.1 (Some l))) (slice_get t.1 at.key)) o ≡ Some p → NamedField c p at l
  in_table None is_t names = absurd cc
  in_table (Some t) is_t names = in_entry t is_t (slice_get t.1 at.key) refl names

module _ (models : ModelSet) where
  -- the row at those positions has the entry's fields
  row_fields : (t : List ℕ × Table) (e : List ℕ × Entry) (j : ℕ) (row : Row) (b : Bool) → slice_get t.1 j ≡ Some e
      → option_and_then (λ u. option_map (λ x. row_of u.0 x.0 x.1) (slice_get u.1 j)) (if b then Some t else None) ≡ Some row → row.fields ≡ e.1
  row_fields t e j row false is at = absurd cc
  row_fields t e j row true is at =
      let same = same_Some _ _ (sym (ap (option_map (λ x. row_of t.0 x.0 x.1)) is) ∙ at) in
      sym (ap (λ r. r.fields) same)

  fields_at : (c : Config) (i j : ℕ) (t : List ℕ × Table) (e : List ℕ × Entry) (row : Row) → slice_get c i ≡ Some t → slice_get t.1 j ≡ Some e → row_at models c i j ≡ Some row → row.fields ≡ e.1
  fields_at c i j t e row is_t is_e at =
      let here = sym (ap (λ o. option_and_then (λ u. option_map (λ x. row_of u.0 x.0 x.1) (slice_get u.1 j)) (option_and_then (if_modelled models) o)) is_t) ∙ at in
      row_fields t e j row (is_some (table_named t.0 models)) is_e here

-- a typed item of a list is one of its items
list_kind : (b : Bool) (items ts : List (List ℕ)) → texts_by_kind b (Listed items) ≡ Some ts → ts ≡ items
list_kind true items ts is = sym (same_Some _ _ is)
list_kind false items ts is = absurd cc

in_rule : (items : List (List ℕ)) (i : ℕ) (rule : FieldRule) (x : DataType × List ℕ) (o : Option (List (List ℕ))) → texts_by_kind rule.list (Listed items) ≡ o
    → option_and_then {T = DataType × List (List ℕ)} (λ ts. option_map (λ s. (ts.0, s)) (slice_get ts.1 i)) (option_map (λ ts. (data_type rule.ty, ts)) o) ≡ Some x → i < length items
in_rule items i rule x None is typed = absurd cc
in_rule items i rule x (Some ts) is typed = within (slice_get ts i) refl typed
  where
    within : (o : Option (List ℕ)) → slice_get ts i ≡ o → option_map (λ s. (data_type rule.ty, s)) o ≡ Some x → i < length items
    within None at e = absurd cc
    within (Some s) at e = subst (λ ys. i < length ys) (list_kind rule.list items ts is) (slice_get_within ts i s at)

item_within : (shape : Shape) (name : List ℕ) (items : List (List ℕ)) (i : ℕ) (x : DataType × List ℕ)
    → option_and_then {T = DataType × List (List ℕ)} (λ ts. option_map (λ s. (ts.0, s)) (slice_get ts.1 i)) (texts_of shape (name, Listed items)) ≡ Some x → i < length items
item_within shape name items i x typed = by_rule (rule_of name shape) typed
  where
    by_rule : (o : Option FieldRule)
        → option_and_then {T = DataType × List (List ℕ)} (λ ts. option_map (λ s. (ts.0, s)) (slice_get ts.1 i)) (option_and_then (λ rule. option_map (λ ts. (data_type rule.ty, ts)) (texts_by_kind rule.list (Listed items))) o) ≡ Some x
        → i < length items
    by_rule None e = absurd cc
    by_rule (Some rule) e = in_rule items i rule x (texts_by_kind rule.list (Listed items)) refl e

-- the index of an item, and the list that has it
indexed : (o : Option (List (List ℕ))) (n i : ℕ) → option_map (λ _. n) o ≡ Some i → (items : List (List ℕ)) × (o ≡ Some items) × (n ≡ i)
indexed None n i is = absurd cc
indexed (Some items) n i is = (items, refl, same_Some n i is)

list_value : (v : Value) (items : List (List ℕ)) → list_in (part.Value v) ≡ Some items → v ≡ Listed items
list_value (Text s) items is = absurd cc
list_value (Listed ss) items is = ap Listed (same_Some ss items is)

module _ (models : ModelSet) (c : Config) (formed : IsConfig c) (p : Place) (want : Want) where
  at_field : (at : WantPlace) (row : Row) (shape : Shape) (x : DataType × List ℕ) (l : ℕ) (items : List (List ℕ)) → row_at models c at.table at.key ≡ Some row
      → typed_item shape row.fields l at.item ≡ Some x → NamedField c p at l → list_at c p ≡ Some items → at.item < length items
  at_field at row shape x l items at_row typed named is =
      let fields = fields_at models c at.table at.key named.table named.entry row named.is_table named.is_entry at_row in
      let here = value_here c formed p at.table named.table named.is_table at.key named.entry named.is_entry l named.field named.is_field in
      let value = list_value named.field.1 items (sym (ap (option_and_then list_in) (ap (part_at c) named.names ∙ here)) ∙ is) in
      item_within shape named.field.0 items at.item x
      (sym (ap (λ o. option_and_then {T = DataType × List (List ℕ)} (λ ts. option_map (λ s. (ts.0, s)) (slice_get ts.1 at.item)) (option_and_then (texts_of shape) o))
      (ap (λ fs. slice_get fs l) fields ∙ named.is_field ∙ ap (λ v. Some (named.field.0, v)) value)) ∙ typed)

  -- a key is no list
  no_list : (at : WantPlace) (items : List (List ℕ)) → names_of c at ≡ Some p → at.field ≡ None → list_at c p ≡ Some items → ⊥
  no_list at items names none is = two (slice_get c at.table) (sym (ap (λ f. option_and_then (λ t. option_and_then (λ e. option_map (λ g. t.0 ∷ e.0 ∷ g) (field_names e.1 f)) (slice_get t.1 at.key)) (slice_get c at.table)) none) ∙ names)
    where
      found : ListNames c p items
      found = list_names c p items is

      in_key : (t : List ℕ × Table) (o : Option (List ℕ × Entry)) → option_and_then (λ e. option_map (λ g. t.0 ∷ e.0 ∷ g) (field_names e.1 None)) o ≡ Some p → ⊥
      in_key t None e = cc
      in_key t (Some entry) e = let three = same_Some _ _ e ∙ found.names in cc

      two : (o : Option (List ℕ × Table)) → option_and_then (λ t. option_and_then (λ e. option_map (λ g. t.0 ∷ e.0 ∷ g) (field_names e.1 None)) (slice_get t.1 at.key)) o ≡ Some p → ⊥
      two None e = cc
      two (Some t) e = in_key t (slice_get t.1 at.key) e

  by_field : (at : WantPlace) (row : Row) (shape : Shape) (x : DataType × List ℕ) (items : List (List ℕ)) → row_at models c at.table at.key ≡ Some row → names_of c at ≡ Some p
      → list_at c p ≡ Some items → (o : Option ℕ) → at.field ≡ o → typed_text shape row o at.item ≡ Some x → at.item < length items
  by_field at row shape x items at_row names is None field typed = absurd (no_list at items names field is)
  by_field at row shape x items at_row names is (Some l) field typed =
      at_field at row shape x l items at_row typed
      (in_table c p at l (slice_get c at.table) refl (sym (ap (λ f. option_and_then (λ t. option_and_then (λ e. option_map (λ g. t.0 ∷ e.0 ∷ g) (field_names e.1 f)) (slice_get t.1 at.key)) (slice_get c at.table)) field) ∙ names)) is

  -- the removal of what has a want is defined
  pub want_defined : (item : Option ℕ) → HasWant models c p item want → IsDefined c (removal p item)
  want_defined None has = names_there c formed p has.at has.names
  want_defined (Some i) has =
      let list = indexed (list_at c p) has.at.item i has.index in
      let typed = some_and _ has.wanted.wanted in
      some_list (λ items. i < length items) (list_at c p) list.0 list.1
      (subst (λ n. n < length list.0) list.2
      (by_field has.at has.wanted.row has.wanted.shape typed.0 list.0 has.wanted.at has.names list.1 has.at.field refl typed.1))
