-- The item of a list that has a want stands in a field of the configuration.
use Rattle.std.proofs.Common.{◌≡◌, ℕ, ◌<◌, Bool, true, false, List, [], ◌∷◌, length, Option, Some, None, is_some, option_map, option_and_then, slice_get, if◌then◌else◌, refl, sym, ap, subst, ◌∙◌}
use Rattle.std.proofs.lemmas.Option.{slice_get_within}
use Rattle.conf_doc.specs.declared.configuration.Config.{Config}
use Rattle.conf_doc.specs.declared.configuration.Entry.{Entry}
use Rattle.conf_doc.specs.declared.configuration.Table.{Table}
use Rattle.conf_doc.specs.declared.configuration.Value.{Value}
use Rattle.conf_doc.specs.declared.configuration.Value.TheVariants.{Text, List as Listed}
use Rattle.conf_check.specs.Rows.{if_modelled, row_at, row_of, rule_of, texts_by_kind, texts_of, typed_item, typed_text, Row}
use Rattle.conf_check.specs.Wants.{Want}
use Rattle.conf_check.specs.declared.want_iter.WantPlace.{WantPlace}
use Rattle.yang_model.specs.ModelSets.{ModelSet, table_named}
use Rattle.yang_model.specs.declared.shapes.FieldRule.{FieldRule}
use Rattle.yang_model.specs.declared.shapes.Shape.{Shape}
use Rattle.yang_types.specs.DataType.{DataType}
use Rattle.yang_types.specs.DataTypes.{data_type}
use Rattle.move_core.specs.Contexts.{HasWant, field_names, names_of}
use Rattle.move_core.specs.Moves.{Place, list_at}
use Rattle.move_core.proofs.DefinedMoves.{some_and}
use Rattle.move_core.proofs.OperationResults.{list_names}

same_Some : {A : Type 0} (x y : A) → Some x ≡ Some y → x ≡ y
same_Some x y e = cc

-- the texts of a value
abbrev pub texts_in : Value → List (List ℕ)
texts_in (Text s) = s ∷ []
texts_in (Listed ss) = ss

-- some value of the configuration has a text at the index
pub record HasTextAt (c : Config) (i : ℕ) : Type 0 where
  pub table : ℕ
  pub key : ℕ
  pub field : ℕ
  pub t : List ℕ × Table
  pub e : List ℕ × Entry
  pub f : List ℕ × Value
  pub is_table : slice_get c table ≡ Some t
  pub is_entry : slice_get t.1 key ≡ Some e
  pub is_field : slice_get e.1 field ≡ Some f
  pub within : i < length (texts_in f.1)

-- the entry at the positions of a row
record RowEntry (c : Config) (i j : ℕ) (row : Row) : Type 0 where
  t : List ℕ × Table
  e : List ℕ × Entry
  is_table : slice_get c i ≡ Some t
  is_entry : slice_get t.1 j ≡ Some e
  fields : row.fields ≡ e.1

module _ (models : ModelSet) (c : Config) (i j : ℕ) (row : Row) where
  in_table : (t : List ℕ × Table) → slice_get c i ≡ Some t → (o : Option (List ℕ × Entry)) → slice_get t.1 j ≡ o → option_map (λ e. row_of t.0 e.0 e.1) o ≡ Some row → RowEntry c i j row
  in_table t is None at_key e = absurd cc
  in_table t is (Some x) at_key e =
      record { t = t; e = x; is_table = is; is_entry = at_key; fields = ap (λ (r : Row). r.fields) (sym (same_Some _ row e)) }

  if_there : (t : List ℕ × Table) → slice_get c i ≡ Some t → (b : Bool)
      → option_and_then (λ u. option_map (λ e. row_of u.0 e.0 e.1) (slice_get u.1 j)) (if b then Some t else None) ≡ Some row → RowEntry c i j row
  if_there t is false e = absurd cc
  if_there t is true e = in_table t is (slice_get t.1 j) refl e

  in_config : (o : Option (List ℕ × Table)) → slice_get c i ≡ o
      → option_and_then (λ u. option_map (λ e. row_of u.0 e.0 e.1) (slice_get u.1 j)) (option_and_then (if_modelled models) o) ≡ Some row → RowEntry c i j row
  in_config None is e = absurd cc
  in_config (Some t) is e = if_there t is (is_some (table_named t.0 models)) e

  row_there : row_at models c i j ≡ Some row → RowEntry c i j row
  row_there at = in_config (slice_get c i) refl at

kind_texts : (b : Bool) (v : Value) (ts : List (List ℕ)) → texts_by_kind b v ≡ Some ts → ts ≡ texts_in v
kind_texts false (Text t) ts is = sym (same_Some _ _ is)
kind_texts true (Listed ss) ts is = sym (same_Some _ _ is)
kind_texts false (Listed ss) ts is = absurd cc
kind_texts true (Text t) ts is = absurd cc

-- an item that has a type stands in a field
typed_there : (shape : Shape) (fields : Entry) (l i : ℕ) (x : DataType × List ℕ) → typed_item shape fields l i ≡ Some x → (f : List ℕ × Value) × (slice_get fields l ≡ Some f) × (i < length (texts_in f.1))
typed_there shape fields l i x typed = in_fields (slice_get fields l) refl typed
  where
    in_texts : (f : List ℕ × Value) (ts : List (List ℕ)) (t : DataType) → ts ≡ texts_in f.1 → (o : Option (List ℕ)) → slice_get ts i ≡ o → option_map (λ s. (t, s)) o ≡ Some x → i < length (texts_in f.1)
    in_texts f ts t is None at e = absurd cc
    in_texts f ts t is (Some s) at e = subst (λ ys. i < length ys) is (slice_get_within ts i s at)

    in_kind : (f : List ℕ × Value) (rule : FieldRule) (o : Option (List (List ℕ))) → texts_by_kind rule.list f.1 ≡ o
        → option_and_then {T = DataType × List (List ℕ)} (λ ts. option_map (λ s. (ts.0, s)) (slice_get ts.1 i)) (option_map (λ ts. (data_type rule.ty, ts)) o) ≡ Some x → i < length (texts_in f.1)
    in_kind f rule None is e = absurd cc
    in_kind f rule (Some ts) is e = in_texts f ts (data_type rule.ty) (kind_texts rule.list f.1 ts is) (slice_get ts i) refl e

    in_rule : (f : List ℕ × Value) (o : Option FieldRule)
        → option_and_then {T = DataType × List (List ℕ)} (λ ts. option_map (λ s. (ts.0, s)) (slice_get ts.1 i))
        (option_and_then (λ rule. option_map (λ ts. (data_type rule.ty, ts)) (texts_by_kind rule.list f.1)) o) ≡ Some x → i < length (texts_in f.1)
    in_rule f None e = absurd cc
    in_rule f (Some rule) e = in_kind f rule (texts_by_kind rule.list f.1) refl e

    in_fields : (o : Option (List ℕ × Value)) → slice_get fields l ≡ o
        → option_and_then {T = DataType × List (List ℕ)} (λ ts. option_map (λ s. (ts.0, s)) (slice_get ts.1 i)) (option_and_then (texts_of shape) o) ≡ Some x
        → (f : List ℕ × Value) × (slice_get fields l ≡ Some f) × (i < length (texts_in f.1))
    in_fields None is e = absurd cc
    in_fields (Some f) is e = (f, is, in_rule f (rule_of f.0 shape) e)

indexed : (o : Option (List (List ℕ))) (n i : ℕ) → option_map (λ _. n) o ≡ Some i → (items : List (List ℕ)) × (o ≡ Some items) × (n ≡ i)
indexed None n i is = absurd cc
indexed (Some items) n i is = (items, refl, same_Some n i is)

-- a key's names are two, a list's three
key_names : (c : Config) (at : WantPlace) (p : Place) (items : List (List ℕ)) → at.field ≡ None → names_of c at ≡ Some p → list_at c p ≡ Some items → ⊥
key_names c at p items none names is = by (slice_get c at.table) (sym (ap (λ f. option_and_then (λ t. option_and_then (λ e. option_map (λ g. t.0 ∷ e.0 ∷ g) (field_names e.1 f)) (slice_get t.1 at.key)) (slice_get c at.table)) none) ∙ names)
  where
    three : (t k : List ℕ) → Some (t ∷ k ∷ []) ≡ Some p → ⊥
    three t k e = let found = list_names c p items is in let names = same_Some _ _ e ∙ found.names in cc

    of_entry : (t : List ℕ × Table) (o : Option (List ℕ × Entry)) → option_and_then (λ e. option_map (λ g. t.0 ∷ e.0 ∷ g) (field_names e.1 None)) o ≡ Some p → ⊥
    of_entry t None e = cc
    of_entry t (Some x) e = three t.0 x.0 e

    by : (o : Option (List ℕ × Table)) → option_and_then (λ t. option_and_then (λ e. option_map (λ g. t.0 ∷ e.0 ∷ g) (field_names e.1 None)) (slice_get t.1 at.key)) o ≡ Some p → ⊥
    by None e = cc
    by (Some t) e = of_entry t (slice_get t.1 at.key) e

-- the item that has a want
pub wanted_item : (models : ModelSet) (c : Config) (p : Place) (i : ℕ) (want : Want) → HasWant models c p (Some i) want → HasTextAt c i
wanted_item models c p i want has = by has.at.field refl typed.1
  where
    list : (items : List (List ℕ)) × (list_at c p ≡ Some items) × (has.at.item ≡ i)
    list = indexed (list_at c p) has.at.item i has.index

    typed : (x : DataType × List ℕ) × (typed_text has.wanted.shape has.wanted.row has.at.field has.at.item ≡ Some x)
    typed = let t = some_and (typed_text has.wanted.shape has.wanted.row has.at.field has.at.item) has.wanted.wanted in (t.0, t.1)

    row : RowEntry c has.at.table has.at.key has.wanted.row
    row = row_there models c has.at.table has.at.key has.wanted.row has.wanted.at

    by : (o : Option ℕ) → has.at.field ≡ o → typed_text has.wanted.shape has.wanted.row o has.at.item ≡ Some typed.0 → HasTextAt c i
    by None none is = absurd (key_names c has.at p list.0 none has.names list.1)
    by (Some l) some is =
        let at = typed_there has.wanted.shape has.wanted.row.fields l has.at.item typed.0 is in record {
          table = has.at.table;
          key = has.at.key;
          field = l;
          t = row.t;
          e = row.e;
          f = at.0;
          is_table = row.is_table;
          is_entry = row.is_entry;
          is_field = subst (λ fs. slice_get fs l ≡ Some at.0) row.fields at.1;
          within = subst (λ n. n < length (texts_in at.0.1)) list.2 at.2;
        }
