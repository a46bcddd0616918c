-- What the types of a shape's texts may refer to.
use Rattle.std.proofs.Common.{◌≡◌, ℕ, zero, suc, List, [], ◌∷◌, Bool, true, false, cond, slice_get, Option, Some, None, option_map, option_and_then, refl, sym, ap, ◌∙◌, subst, ◌||◌, ◌<◌, ◌≤◌, length, true≢false, arith}
use Rattle.std.specs.List.{find, list_any}
use Rattle.std.specs.Option.{option_map_or}
use Rattle.std.specs.Str.{bytes_eq}
use Rattle.conf_doc.proofs.Edits.{same_Some}
use Rattle.conf_doc.specs.declared.configuration.Value.{Value}
use Rattle.conf_check.specs.Rows.{Row, HasShape, is_key_leaf, rule_of, texts_by_kind, texts_of, typed_text, typed_texts}
use Rattle.key_split.specs.Key.{key_parts}
use Rattle.yang_model.specs.ModelSets.{ModelSet, TableModel, shape_of, shapes_of, table_named}
use Rattle.yang_model.specs.declared.shapes.FieldRule.{FieldRule}
use Rattle.yang_model.specs.declared.shapes.KeyLeaf.{KeyLeaf}
use Rattle.yang_model.specs.declared.shapes.Shape.{Shape}
use Rattle.yang_types.specs.DataType.{DataType, plain_types, types_of}
use Rattle.yang_types.specs.DataTypes.{data_type}
use Rattle.yang_types.specs.declared.types.Ty.{Ty}
use Rattle.yang_types.specs.declared.types.Ty.TheVariants.{Union}
use Rattle.ref_index.specs.Referring.{may_refer, member_refers, shape_refers, type_refers}

-- ---- tests of lists

or_left : (a b : Bool) → a ≡ true → a || b ≡ true
or_left true b e = refl
or_left false b e = cc

or_right : (a b : Bool) → b ≡ true → a || b ≡ true
or_right true b e = refl
or_right false b e = e

pub either_first : (a b : Bool) → a ≡ true → true ≡ a || b
either_first true b is = refl
either_first false b is = absurd (true≢false (sym is))

pub either_second : (a b : Bool) → a ≡ false → b ≡ a || b
either_second true b is = absurd (true≢false is)
either_second false b is = refl

-- what doesn't pass fails
pub fails_only : (b : Bool) → ¬ (b ≡ true) → false ≡ b
fails_only true fails = absurd (fails refl)
fails_only false fails = refl

module _ {A : Type 0} (test : A → Bool) where
  pub any_at : (xs : List A) (i : ℕ) (a : A) → slice_get xs i ≡ Some a → test a ≡ true → list_any test xs ≡ true
  any_at [] i a at passes = cc
  any_at (x ∷ xs) zero a at passes = or_left (test x) (list_any test xs) (subst (λ y. test y ≡ true) (sym (same_Some x a at)) passes)
  any_at (x ∷ xs) (suc i) a at passes = or_right (test x) (list_any test xs) (any_at xs i a at passes)

  module _ (first : A → Bool) (a : A) (passes : test a ≡ true) where
    found_by : (x : A) (xs : List A) → (find first xs ≡ Some a → list_any test xs ≡ true) → (b : Bool)
        → cond b (Some x) (find first xs) ≡ Some a → list_any test (x ∷ xs) ≡ true
    found_by x xs rest true is = or_left (test x) (list_any test xs) (subst (λ y. test y ≡ true) (sym (same_Some x a is)) passes)
    found_by x xs rest false is = or_right (test x) (list_any test xs) (rest is)

    any_found : (xs : List A) → find first xs ≡ Some a → list_any test xs ≡ true
    any_found [] at = cc
    any_found (x ∷ xs) at = found_by x xs (any_found xs) (first x) at

  none_at : (a b : Bool) → ¬ (a ≡ true) → a || b ≡ true → b ≡ true
  none_at true b fails any = absurd (fails refl)
  none_at false b fails any = any

  pub none_found : (xs : List A) (n : ℕ) → length xs ≤ n → ((j : ℕ) → j < n → (a : A) → slice_get xs j ≡ Some a → ¬ (test a ≡ true)) → ¬ (list_any test xs ≡ true)
  none_found [] n long none any = true≢false (sym any)
  none_found (x ∷ xs) zero long none any = absurd (omega (arith, long))
  none_found (x ∷ xs) (suc n) long none any =
      none_found xs n (omega (arith, long)) (λ j below a at. none (suc j) (omega (arith, below)) a at)
      (none_at (test x) (list_any test xs) (none zero (omega arith) x refl) any)

  -- the test fails at each place
  pub any_none : (xs : List A) (n : ℕ) → length xs ≤ n → ((j : ℕ) → j < n → (a : A) → slice_get xs j ≡ Some a → ¬ (test a ≡ true)) → false ≡ list_any test xs
  any_none xs n long none = fails_only (list_any test xs) (none_found xs n long none)

-- ---- types

plain_of : (ts : List DataType) → ts ≡ plain_types (types_of ts)
plain_of [] = refl
plain_of (t ∷ ts) = ap (λ (us : List DataType). t ∷ us) (plain_of ts)

-- what is asked of the members of a union
pub union_refers : (to : List ℕ) (ty : Ty) (ts : List DataType) → ty ≡ Union ts → list_any (member_refers to) ts ≡ type_refers to (data_type ty)
union_refers to ty ts is =
    ap (λ (us : List DataType). list_any (member_refers to) us) (plain_of ts) ∙ ap (λ (t : Ty). type_refers to (data_type t)) (sym is)

-- ---- shapes

module _ (to : List ℕ) (text : DataType × List ℕ) (refers : type_refers to text.0 ≡ true) where
  -- the type of the text is that one
  type_is : (ty : DataType) (o : Option (List ℕ)) → option_map (λ s. (ty, s)) o ≡ Some text → type_refers to ty ≡ true
  type_is ty None is = cc
  type_is ty (Some s) is = subst (λ (p : DataType × List ℕ). type_refers to p.0 ≡ true) (sym (same_Some (ty, s) text is)) refers

  leaf_refers : (key : List ℕ) (i : ℕ) (leaves : List KeyLeaf) (o : Option KeyLeaf) → slice_get leaves i ≡ o
      → option_and_then (λ leaf. option_map (λ s. (data_type leaf.ty, s)) (slice_get (key_parts key) i)) o ≡ Some text
      → list_any (λ leaf. type_refers to (data_type leaf.ty)) leaves ≡ true
  leaf_refers key i leaves None at is = cc
  leaf_refers key i leaves (Some leaf) at is =
      any_at (λ k. type_refers to (data_type k.ty)) leaves i leaf at (type_is (data_type leaf.ty) (slice_get (key_parts key) i) is)

  texts_refer : (i : ℕ) (ty : DataType) (o : Option (List (List ℕ)))
      → option_and_then (λ (ts : DataType × List (List ℕ)). option_map (λ s. (ts.0, s)) (slice_get ts.1 i)) (option_map (λ ts. (ty, ts)) o) ≡ Some text
      → type_refers to ty ≡ true
  texts_refer i ty None is = cc
  texts_refer i ty (Some ts) is = type_is ty (slice_get ts i) is

  rule_refers : (i : ℕ) (v : Value) (o : Option FieldRule)
      → option_and_then (λ (ts : DataType × List (List ℕ)). option_map (λ s. (ts.0, s)) (slice_get ts.1 i)) (option_and_then (λ rule. typed_texts rule v) o) ≡ Some text
      → (rule : FieldRule) × (o ≡ Some rule) × (type_refers to (data_type rule.ty) ≡ true)
  rule_refers i v None is = cc
  rule_refers i v (Some rule) is = (rule, refl, texts_refer i (data_type rule.ty) (texts_by_kind rule.list v) is)

  ruled : (name : List ℕ) (shape : Shape) (rule : FieldRule) → type_refers to (data_type rule.ty) ≡ true → (b : Bool)
      → cond b None (find (λ f. bytes_eq name f.name) shape.fields) ≡ Some rule → list_any (λ f. type_refers to (data_type f.ty)) shape.fields ≡ true
  ruled name shape rule passes true is = cc
  ruled name shape rule passes false is = any_found (λ f. type_refers to (data_type f.ty)) (λ f. bytes_eq name f.name) rule passes shape.fields is

  field_refers : (i : ℕ) (shape : Shape) (o : Option (List ℕ × Value))
      → option_and_then (λ (ts : DataType × List (List ℕ)). option_map (λ s. (ts.0, s)) (slice_get ts.1 i)) (option_and_then (texts_of shape) o) ≡ Some text
      → list_any (λ f. type_refers to (data_type f.ty)) shape.fields ≡ true
  field_refers i shape None is = cc
  field_refers i shape (Some f) is =
      let by = rule_refers i f.1 (rule_of f.0 shape) is in
      ruled f.0 shape by.0 by.2 (is_key_leaf f.0 shape) by.1

  text_refers : (shape : Shape) (row : Row) (f : Option ℕ) (i : ℕ) → typed_text shape row f i ≡ Some text → shape_refers to shape ≡ true
  text_refers shape row None i is =
      or_left (list_any (λ k. type_refers to (data_type k.ty)) shape.keys) (list_any (λ f. type_refers to (data_type f.ty)) shape.fields)
      (leaf_refers row.key i shape.keys (slice_get shape.keys i) refl is)
  text_refers shape row (Some j) i is =
      or_right (list_any (λ k. type_refers to (data_type k.ty)) shape.keys) (list_any (λ f. type_refers to (data_type f.ty)) shape.fields)
      (field_refers i shape (slice_get row.fields j) is)

-- ---- tables

-- no text of an entry refers to a table that its own may not refer to
pub refers_nowhere : (models : ModelSet) (to : List ℕ) (row : Row) (shape : Shape) → may_refer models row.table to ≡ false → HasShape models row shape
    → (f : Option ℕ) (i : ℕ) (text : DataType × List ℕ) → typed_text shape row f i ≡ Some text → type_refers to text.0 ≡ false
refers_nowhere models to row shape none has f i text is =
    sym (fails_only (type_refers to text.0) (λ refers.
    let may : may_refer models row.table to ≡ true =
    any_at (shape_refers to) (shapes_of row.table models) has.place shape has.is (text_refers to text refers shape row f i is) in
    true≢false (sym may ∙ none)))

-- ---- loops

-- a shape of a table, by its place among the shapes
pub shape_place : (models : ModelSet) (table : List ℕ) (i : ℕ) → shape_of table i models ≡ slice_get (shapes_of table models) i
shape_place models table i = by (table_named table models)
  where
    by : (o : Option TableModel) → option_and_then (λ (t : TableModel). slice_get t.shapes i) o ≡ slice_get (option_map_or (λ (t : TableModel). t.shapes) o []) i
    by None = refl
    by (Some t) = refl

-- where nothing stands a list has ended
pub ended_at : {A : Type 0} (xs : List A) (i : ℕ) → slice_get xs i ≡ None → length xs ≤ i
ended_at [] i none = omega arith
ended_at (x ∷ xs) zero none = absurd cc
ended_at (x ∷ xs) (suc i) none = let rest = ended_at xs i none in omega (arith, rest)
