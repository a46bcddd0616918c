-- A want is of a table that may refer to the wanted one.
use Rattle.std.proofs.Common.{◌≡◌, inl, inr, ℕ, zero, suc, List, [], ◌∷◌, Bool, true, false, cond, map, slice_get, Contains, Option, Some, None, option_map, option_and_then, refl, sym, ap, ◌∙◌, subst, ◌||◌, ◌<◌, ◌≤◌, length, true≢false, arith}
use Rattle.std.specs.List.{find, list_any}
use Rattle.std.specs.Str.{bytes_eq}
use Rattle.std.proofs.lemmas.Option.{slice_get-map}
use Rattle.std.proofs.lemmas.Slice.Eq.{bytes_eq-Decides}
use Rattle.conf_doc.proofs.Edits.{same_Some}
use Rattle.conf_doc.specs.declared.configuration.Config.{Config}
use Rattle.conf_doc.specs.declared.configuration.Table.{Table}
use Rattle.conf_doc.specs.declared.configuration.Value.{Value}
use Rattle.conf_check.specs.Acceptance.{IsFirstWanted, IsWanted}
use Rattle.conf_check.specs.Rows.{Row, is_key_leaf, rule_of, texts_by_kind, texts_of, typed_text, typed_texts}
use Rattle.conf_check.specs.Wants.{Want, IsWantAt, IsWantedText}
use Rattle.conf_check.specs.declared.want_iter.WantPlace.{WantPlace}
use Rattle.key_split.specs.Key.{key_parts}
use Rattle.yang_model.specs.ModelSets.{ModelSet, TableModel, shape_of, shapes_of, table_named}
use Rattle.std.specs.Option.{option_map_or}
use Rattle.yang_model.specs.declared.shapes.FieldRule.{FieldRule}
use Rattle.yang_model.specs.declared.shapes.KeyLeaf.{KeyLeaf}
use Rattle.yang_model.specs.declared.shapes.Shape.{Shape}
use Rattle.yang_types.specs.DataType.{DataType, text, number, length_within, value_within, matching, one_of, truth, builtin, leafref, union, DataTypes, no_types, type_and, plain_types, types_of}
use Rattle.yang_types.specs.DataTypes.{data_type}
use Rattle.yang_types.specs.declared.types.Target.{Target}
use Rattle.yang_types.specs.declared.types.Ty.{Ty}
use Rattle.yang_types.specs.declared.types.Ty.TheVariants.{Union}
use Rattle.move_core.specs.declared.moves.Move.{Move}
use Rattle.move_extend.specs.Mentions.{GivesOfTable}
use Rattle.move_extend.specs.Referrers.{GivesRemovals}
use Rattle.move_extend.specs.Referring.{MayRefer, member_refers, shape_refers, type_refers}
use Rattle.move_extend.specs.declared.changes.Change.{Change}
use Rattle.move_extend.proofs.DistinctLists.{item_at}
use Rattle.move_extend.proofs.Texts.{Stands, row_stands}

-- ---- tests of lists

or_left : (a b : Bool) → a ≡ true → a || b ≡ true
or_left true b e = refl
or_left false b e = cc

or_right : (a b : Bool) → b ≡ true → a || b ≡ true
or_right true b e = refl
or_right false b e = e

pub either_first : (a b : Bool) → a ≡ true → true ≡ a || b
either_first true b is = refl
either_first false b is = absurd (true≢false (sym is))

pub either_second : (a b : Bool) → a ≡ false → b ≡ a || b
either_second true b is = absurd (true≢false is)
either_second false b is = refl

module _ {A : Type 0} (test : A → Bool) where
  pub any_at : (xs : List A) (i : ℕ) (a : A) → slice_get xs i ≡ Some a → test a ≡ true → list_any test xs ≡ true
  any_at [] i a at passes = cc
  any_at (x ∷ xs) zero a at passes = or_left (test x) (list_any test xs) (subst (λ y. test y ≡ true) (sym (same_Some x a at)) passes)
  any_at (x ∷ xs) (suc i) a at passes = or_right (test x) (list_any test xs) (any_at xs i a at passes)

  module _ (first : A → Bool) (a : A) (passes : test a ≡ true) where
    found_by : (x : A) (xs : List A) → (find first xs ≡ Some a → list_any test xs ≡ true) → (b : Bool)
        → cond b (Some x) (find first xs) ≡ Some a → list_any test (x ∷ xs) ≡ true
    found_by x xs rest true is = or_left (test x) (list_any test xs) (subst (λ y. test y ≡ true) (sym (same_Some x a is)) passes)
    found_by x xs rest false is = or_right (test x) (list_any test xs) (rest is)

    any_found : (xs : List A) → find first xs ≡ Some a → list_any test xs ≡ true
    any_found [] at = cc
    any_found (x ∷ xs) at = found_by x xs (any_found xs) (first x) at

  none_at : (a b : Bool) → ¬ (a ≡ true) → a || b ≡ true → b ≡ true
  none_at true b fails any = absurd (fails refl)
  none_at false b fails any = any

  none_found : (xs : List A) (n : ℕ) → length xs ≤ n → ((j : ℕ) → j < n → (a : A) → slice_get xs j ≡ Some a → ¬ (test a ≡ true)) → ¬ (list_any test xs ≡ true)
  none_found [] n long none any = true≢false (sym any)
  none_found (x ∷ xs) zero long none any = absurd (omega (arith, long))
  none_found (x ∷ xs) (suc n) long none any =
      none_found xs n (omega (arith, long)) (λ j below a at. none (suc j) (omega (arith, below)) a at)
      (none_at (test x) (list_any test xs) (none zero (omega arith) x refl) any)

  fails_only : (b : Bool) → ¬ (b ≡ true) → false ≡ b
  fails_only true fails = absurd (fails refl)
  fails_only false fails = refl

  -- the test fails at each place
  pub any_none : (xs : List A) (n : ℕ) → length xs ≤ n → ((j : ℕ) → j < n → (a : A) → slice_get xs j ≡ Some a → ¬ (test a ≡ true)) → false ≡ list_any test xs
  any_none xs n long none = fails_only (list_any test xs) (none_found xs n long none)

-- ---- types

plain_of : (ts : List DataType) → ts ≡ plain_types (types_of ts)
plain_of [] = refl
plain_of (t ∷ ts) = ap (λ (us : List DataType). t ∷ us) (plain_of ts)

-- what is asked of the members of a union
pub union_refers : (to : List ℕ) (ty : Ty) (ts : List DataType) → ty ≡ Union ts → list_any (member_refers to) ts ≡ type_refers to (data_type ty)
union_refers to ty ts is =
    ap (λ (us : List DataType). list_any (member_refers to) us) (plain_of ts) ∙ ap (λ (t : Ty). type_refers to (data_type t)) (sym is)

module _ (models : ModelSet) (c : Config) (s : List ℕ) (r : Target) where
  member_wanted : (t : DataType) → IsWanted models c t s r → member_refers r.table t ≡ true
  member_wanted (leafref target t) w = (bytes_eq-Decides target.table r.table).1 (ap (λ (u : Target). u.table) (sym w.0))
  member_wanted (union ts) w = refl
  member_wanted text w = absurd w
  member_wanted (number b) w = absurd w
  member_wanted (length_within t bs) w = absurd w
  member_wanted (value_within t bs) w = absurd w
  member_wanted (matching t p) w = absurd w
  member_wanted (one_of names) w = absurd w
  member_wanted truth w = absurd w
  member_wanted (builtin b) w = absurd w

  first_wanted : (ts : DataTypes) → IsFirstWanted models c ts s r → list_any (member_refers r.table) (plain_types ts) ≡ true
  first_wanted no_types w = absurd w
  first_wanted (type_and t ts) (inl w) = or_left (member_refers r.table t) (list_any (member_refers r.table) (plain_types ts)) (member_wanted t w)
  first_wanted (type_and t ts) (inr w) = or_right (member_refers r.table t) (list_any (member_refers r.table) (plain_types ts)) (first_wanted ts w.1)

  type_wanted : (t : DataType) → IsWanted models c t s r → type_refers r.table t ≡ true
  type_wanted (leafref target t) w = member_wanted (leafref target t) w
  type_wanted (union ts) w = first_wanted ts w
  type_wanted text w = absurd w
  type_wanted (number b) w = absurd w
  type_wanted (length_within t bs) w = absurd w
  type_wanted (value_within t bs) w = absurd w
  type_wanted (matching t p) w = absurd w
  type_wanted (one_of names) w = absurd w
  type_wanted truth w = absurd w
  type_wanted (builtin b) w = absurd w

-- ---- shapes

module _ (models : ModelSet) (c : Config) (w : Want) where
  abbrev to : List ℕ
  to = w.target.table

  text_wanted : (ty : DataType) (o : Option (List ℕ)) → IsWantedText models c (option_map (λ s. (ty, s)) o) w → type_refers to ty ≡ true
  text_wanted ty None wanted = absurd wanted
  text_wanted ty (Some s) wanted = type_wanted models c s w.target ty wanted.1

  leaf_wanted : (key : List ℕ) (i : ℕ) (leaves : List KeyLeaf) (o : Option KeyLeaf) → slice_get leaves i ≡ o
      → IsWantedText models c (option_and_then (λ leaf. option_map (λ s. (data_type leaf.ty, s)) (slice_get (key_parts key) i)) o) w
      → list_any (λ leaf. type_refers to (data_type leaf.ty)) leaves ≡ true
  leaf_wanted key i leaves None at wanted = absurd wanted
  leaf_wanted key i leaves (Some leaf) at wanted =
      any_at (λ k. type_refers to (data_type k.ty)) leaves i leaf at (text_wanted (data_type leaf.ty) (slice_get (key_parts key) i) wanted)

  texts_wanted : (i : ℕ) (ty : DataType) (o : Option (List (List ℕ)))
      → IsWantedText models c (option_and_then (λ (ts : DataType × List (List ℕ)). option_map (λ s. (ts.0, s)) (slice_get ts.1 i)) (option_map (λ ts. (ty, ts)) o)) w
      → type_refers to ty ≡ true
  texts_wanted i ty None wanted = absurd wanted
  texts_wanted i ty (Some ts) wanted = text_wanted ty (slice_get ts i) wanted

  rule_wanted : (i : ℕ) (v : Value) (o : Option FieldRule)
      → IsWantedText models c (option_and_then (λ (ts : DataType × List (List ℕ)). option_map (λ s. (ts.0, s)) (slice_get ts.1 i)) (option_and_then (λ rule. typed_texts rule v) o)) w
      → (rule : FieldRule) × (o ≡ Some rule) × (type_refers to (data_type rule.ty) ≡ true)
  rule_wanted i v None wanted = absurd wanted
  rule_wanted i v (Some rule) wanted = (rule, refl, texts_wanted i (data_type rule.ty) (texts_by_kind rule.list v) wanted)

  ruled : (name : List ℕ) (shape : Shape) (rule : FieldRule) → type_refers to (data_type rule.ty) ≡ true → (b : Bool)
      → cond b None (find (λ f. bytes_eq name f.name) shape.fields) ≡ Some rule → list_any (λ f. type_refers to (data_type f.ty)) shape.fields ≡ true
  ruled name shape rule passes true is = cc
  ruled name shape rule passes false is = any_found (λ f. type_refers to (data_type f.ty)) (λ f. bytes_eq name f.name) rule passes shape.fields is

  field_wanted : (i : ℕ) (shape : Shape) (o : Option (List ℕ × Value))
      → IsWantedText models c (option_and_then (λ (ts : DataType × List (List ℕ)). option_map (λ s. (ts.0, s)) (slice_get ts.1 i)) (option_and_then (texts_of shape) o)) w
      → list_any (λ f. type_refers to (data_type f.ty)) shape.fields ≡ true
  field_wanted i shape None wanted = absurd wanted
  field_wanted i shape (Some f) wanted =
      let by = rule_wanted i f.1 (rule_of f.0 shape) wanted in
      ruled f.0 shape by.0 by.2 (is_key_leaf f.0 shape) by.1

  shape_wanted : (shape : Shape) (row : Row) (f : Option ℕ) (i : ℕ) → IsWantedText models c (typed_text shape row f i) w → shape_refers to shape ≡ true
  shape_wanted shape row None i wanted =
      or_left (list_any (λ k. type_refers to (data_type k.ty)) shape.keys) (list_any (λ f. type_refers to (data_type f.ty)) shape.fields)
      (leaf_wanted row.key i shape.keys (slice_get shape.keys i) refl wanted)
  shape_wanted shape row (Some j) i wanted =
      or_right (list_any (λ k. type_refers to (data_type k.ty)) shape.keys) (list_any (λ f. type_refers to (data_type f.ty)) shape.fields)
      (field_wanted i shape (slice_get row.fields j) wanted)

-- ---- tables

-- the table of a want's entry may refer to what is wanted
want_refers : (models : ModelSet) (c : Config) (at : WantPlace) (w : Want) → (wanted : IsWantAt models c at w) → MayRefer models wanted.row.table w.target.table
want_refers models c at w wanted = record {
  place = wanted.shaped.place;
  shape = wanted.shape;
  at = wanted.shaped.is;
  refers = shape_wanted models c w wanted.shape wanted.row at.field at.item wanted.wanted;
}

-- where no table of a configuration may refer to a table there is nothing to remove
pub unreferred : (models : ModelSet) (cur next : Config) (t : List ℕ) → ((u : List ℕ) → Contains (map (λ p. p.0) cur) u → ¬ MayRefer models u t) → (x : Move)
    → ¬ GivesRemovals models cur next t x
unreferred models cur next t none x given =
    let row : Row = given.wanted.row in
    let stands : Stands cur given.at.table given.at.key row = row_stands models cur given.at.table given.at.key row given.wanted.at in
    none row.table
    (item_at (map (λ p. p.0) cur) given.at.table row.table (slice_get-map (λ p. p.0) cur given.at.table ∙ ap (option_map (λ p. p.0)) stands.at))
    (subst (MayRefer models row.table) given.broken.0 (want_refers models cur given.at given.want given.wanted))

-- where a table may not, its entries give nothing
pub table_unreferred : (c : Change) (t u : List ℕ) (entries : Table) → ¬ MayRefer c.models.now u t → (x : Move) → ¬ GivesOfTable c t (u, entries) x
table_unreferred c t u entries none x gives =
    let given = gives.gives.given in
    let at = gives.gives.at in
    let row : Row = given.wanted.row in
    let stands : Stands c.cur.now given.at.table given.at.key row = row_stands c.models.now c.cur.now given.at.table given.at.key row given.wanted.at in
    let same : (row.table, stands.entries) ≡ (u, at.entries) = same_Some (row.table, stands.entries) (u, at.entries) (sym stands.at ∙ at.at) in
    none
    (subst (λ name. MayRefer c.models.now name t) (ap (λ (p : List ℕ × Table). p.0) same)
    (subst (MayRefer c.models.now row.table) given.broken.0 (want_refers c.models.now c.cur.now given.at given.want given.wanted)))

-- ---- loops

-- an index with an item is below one without
pub before_end : {A : Type 0} (xs : List A) (i j : ℕ) (a : A) → slice_get xs i ≡ None → slice_get xs j ≡ Some a → j < i
before_end [] i j a none at = absurd cc
before_end (x ∷ xs) zero j a none at = absurd cc
before_end (x ∷ xs) (suc i) zero a none at = omega arith
before_end (x ∷ xs) (suc i) (suc j) a none at = let before = before_end xs i j a none at in omega arith

-- a shape of a table, by its place among the shapes
pub shape_place : (models : ModelSet) (table : List ℕ) (i : ℕ) → shape_of table i models ≡ slice_get (shapes_of table models) i
shape_place models table i = by (table_named table models)
  where
    by : (o : Option TableModel) → option_and_then (λ (t : TableModel). slice_get t.shapes i) o ≡ slice_get (option_map_or (λ (t : TableModel). t.shapes) o []) i
    by None = refl
    by (Some t) = refl
