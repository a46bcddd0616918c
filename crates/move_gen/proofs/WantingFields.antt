-- In a table without a field that may want, no field of an entry has a want.
use Rattle.std.proofs.Common.{◌≡◌, ℕ, zero, suc, ◌<◌, List, [], ◌∷◌, Bool, true, false, cond, ◌||◌, slice_get, refl, sym, ap, subst, arith}
use Rattle.std.specs.Prelude.{Option, Some, None, is_some, option_map, option_and_then}
use Rattle.std.specs.List.{find, list_any}
use Rattle.std.specs.Option.{option_map_or}
use Rattle.std.specs.Str.{bytes_eq}
use Rattle.std.proofs.lemmas.Option.{same_Some}
use Rattle.conf_doc.specs.declared.configuration.Config.{Config}
use Rattle.conf_doc.specs.declared.configuration.Entry.{Entry}
use Rattle.conf_doc.specs.declared.configuration.Table.{Table}
use Rattle.conf_doc.specs.declared.configuration.Value.{Value}
use Rattle.conf_check.specs.Acceptance.{IsWanted}
use Rattle.conf_check.specs.Rows.{IsEntryAt, Row, if_modelled, is_key_leaf, row_at, row_of, texts_by_kind, texts_of, typed_text, typed_texts}
use Rattle.conf_check.specs.Wants.{Want, IsWantAt, IsWantedText, field_name}
use Rattle.move_core.specs.Contexts.{HasWant}
use Rattle.yang_model.specs.ModelSets.{ModelSet, TableModel, shape_of, shapes_of, table_named}
use Rattle.yang_model.specs.declared.shapes.FieldRule.{FieldRule}
use Rattle.yang_model.specs.declared.shapes.Shape.{Shape}
use Rattle.yang_types.specs.DataType.{DataType, text, number, length_within, value_within, matching, one_of, truth, builtin, leafref, union}
use Rattle.yang_types.specs.DataTypes.{data_type}
use Rattle.move_gen.specs.WantingFields.{HasWantingField, fields_may_want, may_want}
use Rattle.move_gen.proofs.WantNames.{names_at}

or_left : (a b : Bool) → a ≡ true → a || b ≡ true
or_left true b e = refl
or_left false b e = cc

or_right : (a b : Bool) → b ≡ true → a || b ≡ true
or_right true b e = refl
or_right false b e = e

-- ---- fields

abbrev rule_may : FieldRule → Bool
rule_may rule = may_want (data_type rule.ty)

abbrev item_of : ℕ → Option (DataType × List (List ℕ)) → Option (DataType × List ℕ)
item_of i ts = option_and_then (λ (ts : DataType × List (List ℕ)). option_map (λ s. (ts.0, s)) (slice_get ts.1 i)) ts

abbrev texts_by : Value → Option FieldRule → Option (DataType × List (List ℕ))
texts_by v rule = option_and_then (λ rule. typed_texts rule v) rule

module _ (models : ModelSet) (c : Config) (w : Want) where
  type_may : (t : DataType) (s : List ℕ) → IsWanted models c t s w.target → may_want t ≡ true
  type_may (leafref target t) s wanted = refl
  type_may (union ts) s wanted = refl
  type_may text s wanted = absurd wanted
  type_may (number b) s wanted = absurd wanted
  type_may (length_within t bs) s wanted = absurd wanted
  type_may (value_within t bs) s wanted = absurd wanted
  type_may (matching t p) s wanted = absurd wanted
  type_may (one_of names) s wanted = absurd wanted
  type_may truth s wanted = absurd wanted
  type_may (builtin b) s wanted = absurd wanted

  text_may : (t : DataType) (o : Option (List ℕ)) → IsWantedText models c (option_map (λ s. (t, s)) o) w → may_want t ≡ true
  text_may t None wanted = absurd wanted
  text_may t (Some s) wanted = type_may t s wanted.1

  texts_may : (i : ℕ) (t : DataType) (o : Option (List (List ℕ))) → IsWantedText models c (item_of i (option_map (λ ts. (t, ts)) o)) w → may_want t ≡ true
  texts_may i t None wanted = absurd wanted
  texts_may i t (Some ts) wanted = text_may t (slice_get ts i) wanted

  first_may : (i : ℕ) (v : Value) (rule : FieldRule) (o : Option FieldRule) (rest : Bool) → (IsWantedText models c (item_of i (texts_by v o)) w → rest ≡ true)
      → (b : Bool) → IsWantedText models c (item_of i (texts_by v (cond b (Some rule) o))) w → rule_may rule || rest ≡ true
  first_may i v rule o rest later true wanted = or_left (rule_may rule) rest (texts_may i (data_type rule.ty) (texts_by_kind rule.list v) wanted)
  first_may i v rule o rest later false wanted = or_right (rule_may rule) rest (later wanted)

  found_may : (i : ℕ) (v : Value) (test : FieldRule → Bool) (rules : List FieldRule) → IsWantedText models c (item_of i (texts_by v (find test rules))) w → list_any rule_may rules ≡ true
  found_may i v test [] wanted = absurd wanted
  found_may i v test (rule ∷ rules) wanted =
      first_may i v rule (find test rules) (list_any rule_may rules) (found_may i v test rules) (test rule) wanted

  named_may : (i : ℕ) (f : List ℕ × Value) (shape : Shape) (b : Bool)
      → IsWantedText models c (item_of i (texts_by f.1 (cond b None (find (λ r. bytes_eq f.0 r.name) shape.fields)))) w → fields_may_want shape ≡ true
  named_may i f shape true wanted = absurd wanted
  named_may i f shape false wanted = found_may i f.1 (λ r. bytes_eq f.0 r.name) shape.fields wanted

  field_may : (i : ℕ) (shape : Shape) (o : Option (List ℕ × Value)) → IsWantedText models c (item_of i (option_and_then (texts_of shape) o)) w → fields_may_want shape ≡ true
  field_may i shape None wanted = absurd wanted
  field_may i shape (Some f) wanted = named_may i f shape (is_key_leaf f.0 shape) wanted

  -- a shape may want what an item of a field of an entry wants
  item_may : (shape : Shape) (row : Row) (fields : Entry) (f : List ℕ) (o : Option ℕ) (i : ℕ) → field_name fields o ≡ Some (Some f)
      → IsWantedText models c (typed_text shape row o i) w → fields_may_want shape ≡ true
  item_may shape row fields f None i named wanted = cc
  item_may shape row fields f (Some j) i named wanted = field_may i shape (slice_get row.fields j) wanted

-- ---- tables

module _ (models : ModelSet) (t : List ℕ) (entries : Table) (j : ℕ) (row : Row) where
  of_entry : (o : Option (List ℕ × Entry)) → option_map (λ e. row_of t e.0 e.1) o ≡ Some row → t ≡ row.table
  of_entry None is = cc
  of_entry (Some e) is = ap (λ (r : Row). r.table) (same_Some (row_of t e.0 e.1) row is)

  abbrev row_in : Option (List ℕ × Table) → Option Row
  row_in o = option_and_then (λ (u : List ℕ × Table). option_map (λ e. row_of u.0 e.0 e.1) (slice_get u.1 j)) o

  of_table : (b : Bool) → row_in (cond b (Some (t, entries)) None) ≡ Some row → t ≡ row.table
  of_table true is = of_entry (slice_get entries j) is
  of_table false is = cc

  -- the row of an entry of a table is of that table
  row_table : (c : Config) (i : ℕ) → slice_get c i ≡ Some (t, entries) → row_at models c i j ≡ Some row → t ≡ row.table
  row_table c i at is =
      of_table (is_some (table_named t models)) (subst (λ o. row_in (option_and_then (if_modelled models) o) ≡ Some row) at is)

-- where no field of a table may want, none of an entry has a want
pub none_wanted : (models : ModelSet) (c : Config) (t k f : List ℕ) → ¬ HasWantingField models t → (i : Option ℕ) (w : Want) → ¬ HasWant models c (t ∷ k ∷ f ∷ []) i w
none_wanted models c t k f none i w h =
    let there = names_at c t k f h.at h.names in
    let entry : IsEntryAt c t k h.at.table h.at.key = there.0 in
    let want : IsWantAt models c h.at w = h.wanted in
    let table : t ≡ want.row.table = row_table models t entry.entries h.at.key want.row c h.at.table entry.at want.at in
    none (record {
      place = want.shaped.place;
      shape = want.shape;
      at = subst (λ u. slice_get (shapes_of u models) want.shaped.place ≡ Some want.shape) (sym table) want.shaped.is;
      may = item_may models c w want.shape want.row entry.fields f h.at.field h.at.item there.1 want.wanted;
    })

-- ---- shapes by their places

-- an index with an item is below one without
pub before_end : {A : Type 0} (xs : List A) (i j : ℕ) (a : A) → slice_get xs i ≡ None → slice_get xs j ≡ Some a → j < i
before_end [] i j a none at = absurd cc
before_end (x ∷ xs) zero j a none at = absurd cc
before_end (x ∷ xs) (suc i) zero a none at = omega arith
before_end (x ∷ xs) (suc i) (suc j) a none at = let before = before_end xs i j a none at in omega arith

-- a shape of a table, by its place among the shapes
pub shape_place : (models : ModelSet) (table : List ℕ) (i : ℕ) → shape_of table i models ≡ slice_get (shapes_of table models) i
shape_place models table i = by (table_named table models)
  where
    by : (o : Option TableModel) → option_and_then (λ (t : TableModel). slice_get t.shapes i) o ≡ slice_get (option_map_or (λ (t : TableModel). t.shapes) o []) i
    by None = refl
    by (Some t) = refl
