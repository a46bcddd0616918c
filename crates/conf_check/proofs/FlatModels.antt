-- What models with the flat forms of their types say of entries, their texts and their wants: what the models say.
use Rattle.std.proofs.Common.{◌≡◌, ◌↔◌, ◌<◌, ◌||◌, ℕ, zero, suc, Bool, true, false, cond, List, [], ◌∷◌, map, length, Option, Some, None, option_map, option_and_then, slice_get, is_some, refl, sym, ap, ◌∙◌, subst, arith}
use Rattle.std.specs.Prelude.{All, IsSomeAnd, MatchBool, slice_index_or, take, if◌then◌else◌}
use Rattle.std.specs.List.{AllZip, HoldsAt, find, list_any}
use Rattle.std.specs.Option.{option_map_or}
use Rattle.std.specs.Str.{bytes_eq}
use Rattle.std.proofs.lemmas.List.{get_or-map, length-map, take-map}
use Rattle.conf_doc.specs.declared.configuration.Config.{Config}
use Rattle.conf_doc.specs.declared.configuration.Entry.{Entry}
use Rattle.conf_doc.specs.declared.configuration.Table.{Table}
use Rattle.conf_doc.specs.declared.configuration.Value.{Value}
use Rattle.key_split.specs.Key.{key_parts}
use Rattle.yang_types.specs.Accepts.{Accepts}
use Rattle.yang_types.specs.DataType.{DataType}
use Rattle.yang_types.specs.DataTypes.{data_type}
use Rattle.yang_types.specs.Flattening.{flat}
use Rattle.yang_types.specs.declared.types.Target.{Target}
use Rattle.yang_types.specs.declared.types.Ty.{Ty}
use Rattle.yang_types.proofs.FlatTypes.{type_accepts}
use Rattle.yang_model.specs.Belongs.{AcceptsPart, Belongs, Fits}
use Rattle.yang_model.specs.FlatModels.{flat_ty, flat_key, flat_field, flat_shape, flat_table, flat_models}
use Rattle.yang_model.specs.ModelSets.{ModelSet, TableModel, owner_of, shapes_of, table_named}
use Rattle.yang_model.specs.declared.shapes.FieldRule.{FieldRule}
use Rattle.yang_model.specs.declared.shapes.KeyLeaf.{KeyLeaf}
use Rattle.yang_model.specs.declared.shapes.Shape.{Shape}
use Rattle.yang_model.proofs.FlatModels.{type_back}
use Rattle.conf_check.specs.Acceptance.{AcceptsIn, IsSatisfied}
use Rattle.conf_check.specs.Rows.{Row, row_of, row_at, if_modelled, HasShape, is_key_leaf, rule_of, texts_by_kind, texts_of, typed_item, typed_part, typed_text, typed_texts}
use Rattle.conf_check.specs.Wants.{Want, IsWantAt, IsWantedText}
use Rattle.conf_check.specs.declared.want_iter.WantPlace.{WantPlace}
use Rattle.conf_check.proofs.FlatTypes.{accepts_alike, wants_alike}

-- ---- both ways

pub same_both : {A : Type 0} → A ↔ A
same_both = (λ h. h, λ h. h)

pub then_both : {A B C : Type 0} → A ↔ B → B ↔ C → A ↔ C
then_both p q = (λ h. q.0 (p.0 h), λ h. p.1 (q.1 h))

pub turned : {A B : Type 0} → A ↔ B → B ↔ A
turned p = (p.1, p.0)

pub along : {A : Type 0} (P : A → Type 0) (a b : A) → a ≡ b → P a ↔ P b
along P a b e = (subst P e, subst P (sym e))

some_same : {A : Type 0} (x y : A) → Some x ≡ Some y → x ≡ y
some_same x y e = cc

none_some : {A : Type 0} (x : A) → ¬ (None ≡ Some x)
none_some x e = cc

pub some_both : {A : Type 0} (f : A → A) (P Q : A → Type 0) → ((x : A) → P (f x) ↔ Q x) → (o : Option A) → IsSomeAnd (option_map f o) P ↔ IsSomeAnd o Q
some_both f P Q each None = same_both
some_both f P Q each (Some x) = each x

match_both : (b : Bool) (P Q R : Type 0) → Q ↔ R → MatchBool b P Q ↔ MatchBool b P R
match_both true P Q R both = same_both
match_both false P Q R both = both

-- ---- lists

module _ {X : Type 0} (f : X → X) where
  pub at_map : (xs : List X) (i : ℕ) → slice_get (map f xs) i ≡ option_map f (slice_get xs i)
  at_map [] i = refl
  at_map (x ∷ xs) zero = refl
  at_map (x ∷ xs) (suc i) = at_map xs i

  pick : (b : Bool) (x : X) (u v : Option X) → u ≡ option_map f v → cond b (Some (f x)) u ≡ option_map f (cond b (Some x) v)
  pick true x u v e = refl
  pick false x u v e = e

  module _ (test : X → Bool) (same : (x : X) → test (f x) ≡ test x) where
    pub find_map : (xs : List X) → find test (map f xs) ≡ option_map f (find test xs)
    find_map [] = refl
    find_map (x ∷ xs) =
        ap (λ b. cond b (Some (f x)) (find test (map f xs))) (same x)
        ∙ pick (test x) x (find test (map f xs)) (find test xs) (find_map xs)

    any_map : (xs : List X) → list_any test (map f xs) ≡ list_any test xs
    any_map [] = refl
    any_map (x ∷ xs) =
        ap (λ b. b || list_any test (map f xs)) (same x) ∙ ap (λ b. test x || b) (any_map xs)

-- ---- shapes

pub type_flat : (ty : Ty) → data_type (flat_ty ty) ≡ flat (data_type ty)
type_flat ty = type_back (flat (data_type ty))

part_fits : (leaf : KeyLeaf) (part : List ℕ) → AcceptsPart (flat_key leaf) part ↔ AcceptsPart leaf part
part_fits leaf part =
    then_both (along (λ (t : DataType). Accepts t part) (data_type (flat_ty leaf.ty)) (flat (data_type leaf.ty)) (type_flat leaf.ty))
    (type_accepts (data_type leaf.ty) part)

parts_fit : (keys : List KeyLeaf) (parts : List (List ℕ)) → AllZip AcceptsPart (map flat_key keys) parts ↔ AllZip AcceptsPart keys parts
parts_fit [] [] = same_both
parts_fit [] (p ∷ ps) = same_both
parts_fit (k ∷ ks) [] = same_both
parts_fit (k ∷ ks) (p ∷ ps) =
    let one = part_fits k p in
    let rest = parts_fit ks ps in
    (λ h. (one.0 h.0, rest.0 h.1), λ h. (one.1 h.0, rest.1 h.1))

shape_fits : (s : Shape) (key : List ℕ) → Fits (flat_shape s) key ↔ Fits s key
shape_fits s key =
    match_both s.fixed (key ≡ s.name) (AllZip AcceptsPart (map flat_key s.keys) (key_parts key)) (AllZip AcceptsPart s.keys (key_parts key))
    (parts_fit s.keys (key_parts key))

module _ (key : List ℕ) where
  abbrev Fit : Shape → Type 0
  Fit s = Fits s key

  fit_at : (ss : List Shape) (i : ℕ) → i < length ss → HoldsAt Fit (map flat_shape ss) i ↔ HoldsAt Fit ss i
  fit_at ss i within = (
    λ h d. (shape_fits (slice_index_or ss i d) key).0 (subst Fit (get_or-map flat_shape ss i d (flat_shape d) within) (h (flat_shape d))),
    λ h d. subst Fit (sym (get_or-map flat_shape ss i d d within)) ((shape_fits (slice_index_or ss i d) key).1 (h d)),
  )

  none_fit : (ss : List Shape) → All (λ s. ¬ Fits s key) (map flat_shape ss) ↔ All (λ s. ¬ Fits s key) ss
  none_fit ss = (
    λ h i d within fits.
        h i (flat_shape d) (omega (arith, length-map ss flat_shape, within))
        (subst Fit (sym (get_or-map flat_shape ss i d (flat_shape d) within)) ((shape_fits (slice_index_or ss i d) key).1 fits)),
    λ h i d within fits.
        let inside : i < length ss = omega (arith, length-map ss flat_shape, within) in
        h i d inside ((shape_fits (slice_index_or ss i d) key).0 (subst Fit (get_or-map flat_shape ss i d d inside) fits)),
  )

  pub shapes_belong : (ss : List Shape) (o : Option ℕ) → Belongs (map flat_shape ss) key o ↔ Belongs ss key o
  shapes_belong ss None = none_fit ss
  shapes_belong ss (Some i) =
      let before : All (λ s. ¬ Fits s key) (take i (map flat_shape ss)) ↔ All (λ s. ¬ Fits s key) (take i ss) =
      then_both (along (All (λ (s : Shape). ¬ Fits s key)) (take i (map flat_shape ss)) (map flat_shape (take i ss)) (take-map flat_shape i ss)) (none_fit (take i ss)) in (
        λ h.
            let within : i < length ss = omega (arith, length-map ss flat_shape, h.0) in
            (within, (fit_at ss i within).0 h.1, before.0 h.2),
        λ h. (omega (arith, length-map ss flat_shape, h.0), (fit_at ss i h.0).1 h.1, before.1 h.2),
      )

-- ---- texts with their types

-- a text, or texts, with the flat form of the type
abbrev pub flat_typed : {X : Type 0} → DataType × X → DataType × X
flat_typed p = (flat p.0, p.1)

abbrev typed_as : {X : Type 0} → DataType → X → DataType × X
typed_as t x = (t, x)

-- an item of some
abbrev item_in : ℕ → DataType × List (List ℕ) → Option (DataType × List ℕ)
item_in i ts = option_map (typed_as ts.0) (slice_get ts.1 i)

module _ (shape : Shape) where
  pub part_typed : (key : List ℕ) (i : ℕ) → typed_part (flat_shape shape) key i ≡ option_map flat_typed (typed_part shape key i)
  part_typed key i =
      ap (option_and_then (λ (leaf : KeyLeaf). option_map (typed_as (data_type leaf.ty)) (slice_get (key_parts key) i))) (at_map flat_key shape.keys i)
      ∙ by (slice_get shape.keys i) (slice_get (key_parts key) i)
    where
      by : (o : Option KeyLeaf) (p : Option (List ℕ)) → option_and_then (λ (leaf : KeyLeaf). option_map (typed_as (data_type leaf.ty)) p) (option_map flat_key o)
          ≡ option_map flat_typed (option_and_then (λ (leaf : KeyLeaf). option_map (typed_as (data_type leaf.ty)) p) o)
      by None p = refl
      by (Some leaf) None = refl
      by (Some leaf) (Some s) = ap (λ (t : DataType). Some (typed_as t s)) (type_flat leaf.ty)

  pub rule_flat : (name : List ℕ) → rule_of name (flat_shape shape) ≡ option_map flat_field (rule_of name shape)
  rule_flat name =
      ap (λ (b : Bool). if b then None else find (λ (f : FieldRule). bytes_eq name f.name) (map flat_field shape.fields)) (any_map flat_key (λ (k : KeyLeaf). bytes_eq name k.name) (λ k. refl) shape.keys)
      ∙ by (is_key_leaf name shape) (find (λ (f : FieldRule). bytes_eq name f.name) (map flat_field shape.fields)) (find (λ (f : FieldRule). bytes_eq name f.name) shape.fields)
      (find_map flat_field (λ (f : FieldRule). bytes_eq name f.name) (λ f. refl) shape.fields)
    where
      by : (b : Bool) (u v : Option FieldRule) → u ≡ option_map flat_field v → (if b then None else u) ≡ option_map flat_field (if b then None else v)
      by true u v e = refl
      by false u v e = e

  pub texts_flat : (field : List ℕ × Value) → texts_of (flat_shape shape) field ≡ option_map flat_typed (texts_of shape field)
  texts_flat field =
      ap (option_and_then (λ (rule : FieldRule). typed_texts rule field.1)) (rule_flat field.0) ∙ by (rule_of field.0 shape)
    where
      kind : (rule : FieldRule) (o : Option (List (List ℕ))) → option_map (typed_as (data_type (flat_ty rule.ty))) o ≡ option_map flat_typed (option_map (typed_as (data_type rule.ty)) o)
      kind rule None = refl
      kind rule (Some ts) = ap (λ (t : DataType). Some (typed_as t ts)) (type_flat rule.ty)

      by : (o : Option FieldRule) → option_and_then (λ (rule : FieldRule). typed_texts rule field.1) (option_map flat_field o)
          ≡ option_map flat_typed (option_and_then (λ (rule : FieldRule). typed_texts rule field.1) o)
      by None = refl
      by (Some rule) = kind rule (texts_by_kind rule.list field.1)

  item_typed : (fields : Entry) (f i : ℕ) → typed_item (flat_shape shape) fields f i ≡ option_map flat_typed (typed_item shape fields f i)
  item_typed fields f i = whole (slice_get fields f)
    where
      one : (t : DataType) (o : Option (List ℕ)) → option_map (typed_as (flat t)) o ≡ option_map flat_typed (option_map (typed_as t) o)
      one t None = refl
      one t (Some s) = refl

      by : (o : Option (DataType × List (List ℕ))) → option_and_then (item_in i) (option_map flat_typed o) ≡ option_map flat_typed (option_and_then (item_in i) o)
      by None = refl
      by (Some ts) = one ts.0 (slice_get ts.1 i)

      whole : (o : Option (List ℕ × Value)) → option_and_then (item_in i) (option_and_then (texts_of (flat_shape shape)) o)
          ≡ option_map flat_typed (option_and_then (item_in i) (option_and_then (texts_of shape) o))
      whole None = refl
      whole (Some field) = ap (option_and_then (item_in i)) (texts_flat field) ∙ by (texts_of shape field)

  pub text_flat : (row : Row) (field : Option ℕ) (i : ℕ) → typed_text (flat_shape shape) row field i ≡ option_map flat_typed (typed_text shape row field i)
  text_flat row None i = part_typed row.key i
  text_flat row (Some f) i = item_typed row.fields f i

-- ---- models

module _ (models : ModelSet) where
  table_flat : (name : List ℕ) → table_named name (flat_models models) ≡ option_map flat_table (table_named name models)
  table_flat name = find_map flat_table (λ (t : TableModel). bytes_eq name t.name) (λ t. refl) models.tables

  pub modelled_flat : (name : List ℕ) → is_some (table_named name (flat_models models)) ≡ is_some (table_named name models)
  modelled_flat name = ap is_some (table_flat name) ∙ by (table_named name models)
    where
      by : (o : Option TableModel) → is_some (option_map flat_table o) ≡ is_some o
      by None = refl
      by (Some t) = refl

  pub owner_flat : (name : List ℕ) → owner_of name (flat_models models) ≡ owner_of name models
  owner_flat name = ap (option_map (λ (t : TableModel). t.owner)) (table_flat name) ∙ by (table_named name models)
    where
      by : (o : Option TableModel) → option_map (λ (t : TableModel). t.owner) (option_map flat_table o) ≡ option_map (λ (t : TableModel). t.owner) o
      by None = refl
      by (Some t) = refl

  pub shapes_flat : (name : List ℕ) → shapes_of name (flat_models models) ≡ map flat_shape (shapes_of name models)
  shapes_flat name = ap (λ (o : Option TableModel). option_map_or (λ (t : TableModel). t.shapes) o []) (table_flat name) ∙ by (table_named name models)
    where
      by : (o : Option TableModel) → option_map_or (λ (t : TableModel). t.shapes) (option_map flat_table o) [] ≡ map flat_shape (option_map_or (λ (t : TableModel). t.shapes) o [])
      by None = refl
      by (Some t) = refl

  pub row_flat : (config : Config) (t k : ℕ) → row_at (flat_models models) config t k ≡ row_at models config t k
  row_flat config t k =
      let each : (p : List ℕ × Table) → if_modelled (flat_models models) p ≡ if_modelled models p =
      λ p. ap (λ (b : Bool). if b then Some p else None) (modelled_flat p.0) in
      let same : if_modelled (flat_models models) ≡ if_modelled models = λ i p. each p i in
      ap (λ (f : List ℕ × Table → Option (List ℕ × Table)). option_and_then (λ (p : List ℕ × Table). option_map (λ (e : List ℕ × Entry). row_of p.0 e.0 e.1) (slice_get p.1 k)) (option_and_then f (slice_get config t))) same

  pub belongs_flat : (table key : List ℕ) (o : Option ℕ) → Belongs (shapes_of table (flat_models models)) key o ↔ Belongs (shapes_of table models) key o
  belongs_flat table key o =
      then_both (along (λ (ss : List Shape). Belongs ss key o) (shapes_of table (flat_models models)) (map flat_shape (shapes_of table models)) (shapes_flat table))
      (shapes_belong key (shapes_of table models) o)

  pub satisfied_flat : (config : Config) (r : Target) (s : List ℕ) → IsSatisfied (flat_models models) config r s ↔ IsSatisfied models config r s
  satisfied_flat config r s = (
    λ h. record { key = h.key; there = h.there; belongs = (belongs_flat r.table h.key (Some r.shape)).0 h.belongs; part = h.part },
    λ h. record { key = h.key; there = h.there; belongs = (belongs_flat r.table h.key (Some r.shape)).1 h.belongs; part = h.part },
  )

  -- ---- shapes of entries

  -- a shape of which the entry's is the flat one
  pub record IsFlatOf (row : Row) (found : Shape) : Type 0 where
    pub shape : Shape
    pub is : found ≡ flat_shape shape
    pub shaped : HasShape models row shape

  pub shape_from : (row : Row) (found : Shape) → HasShape (flat_models models) row found → IsFlatOf row found
  shape_from row found h =
      by (slice_get (shapes_of row.table models) h.place) refl
      (sym (at_map flat_shape (shapes_of row.table models) h.place) ∙ ap (λ (ss : List Shape). slice_get ss h.place) (sym (shapes_flat row.table)) ∙ h.is)
    where
      by : (o : Option Shape) → slice_get (shapes_of row.table models) h.place ≡ o → option_map flat_shape o ≡ Some found → IsFlatOf row found
      by None at e = absurd (none_some found e)
      by (Some shape) at e = record {
        shape = shape;
        is = sym (some_same (flat_shape shape) found e);
        shaped = record { place = h.place; belongs = (belongs_flat row.table row.key (Some h.place)).0 h.belongs; is = at };
      }

  pub shape_to : (row : Row) (shape : Shape) → HasShape models row shape → HasShape (flat_models models) row (flat_shape shape)
  shape_to row shape h = record {
    place = h.place;
    belongs = (belongs_flat row.table row.key (Some h.place)).1 h.belongs;
    is = ap (λ (ss : List Shape). slice_get ss h.place) (shapes_flat row.table) ∙ at_map flat_shape (shapes_of row.table models) h.place ∙ ap (option_map flat_shape) h.is;
  }

  module _ (config : Config) where
    pub accepted_flat : (t : DataType) (s : List ℕ) → AcceptsIn (flat_models models) config (flat t) s ↔ AcceptsIn models config t s
    accepted_flat t s = accepts_alike (flat_models models) models config (satisfied_flat config) t s

    -- ---- wants

    wanted_flat : (want : Want) (o : Option (DataType × List ℕ)) → IsWantedText (flat_models models) config (option_map flat_typed o) want ↔ IsWantedText models config o want
    wanted_flat want None = same_both
    wanted_flat want (Some t) =
        let both = wants_alike (flat_models models) models config (satisfied_flat config) t.0 t.1 want.target in
        (λ h. (h.0, both.0 h.1), λ h. (h.0, both.1 h.1))

    typed_wanted : (want : Want) (shape : Shape) (row : Row) (field : Option ℕ) (i : ℕ)
        → IsWantedText (flat_models models) config (typed_text (flat_shape shape) row field i) want ↔ IsWantedText models config (typed_text shape row field i) want
    typed_wanted want shape row field i =
        then_both
        (along (λ o. IsWantedText (flat_models models) config o want) (typed_text (flat_shape shape) row field i) (option_map flat_typed (typed_text shape row field i)) (text_flat shape row field i))
        (wanted_flat want (typed_text shape row field i))

    -- each place has the wants that it has by the models
    pub want_flat : (place : WantPlace) (want : Want) → IsWantAt (flat_models models) config place want ↔ IsWantAt models config place want
    want_flat place want = (
      λ h.
          let found = shape_from h.row h.shape h.shaped in
          let P : Shape → Type 0 = λ s. IsWantedText (flat_models models) config (typed_text s h.row place.field place.item) want in
          record {
            row = h.row;
            at = sym (row_flat config place.table place.key) ∙ h.at;
            shape = found.shape;
            shaped = found.shaped;
            wanted = (typed_wanted want found.shape h.row place.field place.item).0 (subst P found.is h.wanted);
          },
      λ h. record {
        row = h.row;
        at = row_flat config place.table place.key ∙ h.at;
        shape = flat_shape h.shape;
        shaped = shape_to h.row h.shape h.shaped;
        wanted = (typed_wanted want h.shape h.row place.field place.item).1 h.wanted;
      },
    )
