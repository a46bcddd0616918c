-- The models that are stored of files are those that are written, with the flat forms of their types.
use Rattle.std.proofs.Common.{◌≡◌, ℕ, Bool, true, false, List, [], ◌∷◌, ◌++◌, map, codes, not, Option, Some, None, refl, sym, ap, ◌∙◌}
use Rattle.std.specs.Prelude.{if◌then◌else◌}
use Rattle.std.specs.List.{flat_map}
use Rattle.std.specs.Option.{option_map_or}
use Rattle.std.proofs.lemmas.List.{map-append}
use Rattle.yang_text.specs.Declarations.{Declaration, argument, block}
use Rattle.yang_types.specs.DataType.{DataType, text, number, length_within, value_within, matching, one_of, truth, builtin, leafref, union}
use Rattle.yang_types.specs.DataTypes.{data_type}
use Rattle.yang_types.specs.Flattening.{flat}
use Rattle.yang_types.specs.declared.types.Ty.TheVariants.{Text}
use Rattle.yang_types.proofs.FlatTypes.{same_types}
use Rattle.yang_scope.specs.Modules.{Module}
use Rattle.yang_scope.specs.Paths.{child_named}
use Rattle.yang_scope.specs.Statements.{is_keyword, first_child}
use Rattle.yang_must.specs.Spots.{ModelContainer, containers_of, tables_of, shapes_of}
use Rattle.yang_faults.specs.Fields.{first_argument, is_key_leaf, is_mandatory}
use Rattle.yang_model.specs.FlatModels.{flat_ty, flat_key, flat_field, flat_shape, flat_table, flat_models}
use Rattle.yang_model.specs.Leaves.{written, stored, name_of, leaf_type, key_type, key_leaf, field, field_at, shape_keys}
use Rattle.yang_model.specs.Readers.{Readers}
use Rattle.yang_model.specs.ShapeCodes.{ty_of}
use Rattle.yang_model.specs.Shapes.{musts_at, shape_model, table_of, tables_in, models_of}
use Rattle.yang_model.specs.declared.shapes.FieldRule.{FieldRule}

-- a data type as a type, and back
pub type_back : (t : DataType) → data_type (ty_of t) ≡ t
type_back text = refl
type_back (number b) = refl
type_back (length_within t bs) = refl
type_back (value_within t bs) = refl
type_back (matching t p) = refl
type_back (one_of names) = refl
type_back truth = refl
type_back (builtin b) = refl
type_back (leafref target t) = refl
type_back (union ts) = ap union (same_types ts)

flat_of : (t : DataType) → ty_of (flat t) ≡ flat_ty (ty_of t)
flat_of t = ap (λ u. ty_of (flat u)) (sym (type_back t))

-- ---- lists

module _ {X Y : Type 0} (f g : X → Y) (h : Y → Y) (same : (x : X) → f x ≡ h (g x)) where
  mapped : (xs : List X) → map f xs ≡ map h (map g xs)
  mapped [] = refl
  mapped (x ∷ xs) = λ i. same x i ∷ mapped xs i

  one_or : (o : Option X) (y : Y) → y ≡ h y → option_map_or f o y ≡ h (option_map_or g o y)
  one_or None y e = e
  one_or (Some x) y e = same x

module _ {X Y : Type 0} (f g : X → List Y) (h : Y → Y) (same : (x : X) → f x ≡ map h (g x)) where
  joined : (xs : List X) → flat_map f xs ≡ map h (flat_map g xs)
  joined [] = refl
  joined (x ∷ xs) =
      let each : f x ++ flat_map f xs ≡ map h (g x) ++ map h (flat_map g xs) = λ i. same x i ++ joined xs i in
      each ∙ sym (map-append h (g x) (flat_map g xs))

either_way : {Y : Type 0} (h : Y → Y) (b : Bool) (us vs xs ys : List Y) → us ≡ map h xs → vs ≡ map h ys
    → (if b then us else vs) ≡ map h (if b then xs else ys)
either_way h true us vs xs ys p q = p
either_way h false us vs xs ys p q = q

-- ---- models

module _ (modules : List Module) (readers : Readers) where
  leaf_flat : (m : ℕ) (d : Declaration) → leaf_type stored modules readers m d ≡ flat_ty (leaf_type written modules readers m d)
  leaf_flat m d =
      one_or (λ t. ty_of (stored modules readers m t)) (λ t. ty_of (written modules readers m t)) flat_ty
      (λ t. flat_of (written modules readers m t)) (first_child (codes "type") d) Text refl

  key_flat : (m : ℕ) (list : Declaration) (name : List ℕ) → key_type stored modules readers m list name ≡ flat_ty (key_type written modules readers m list name)
  key_flat m list name =
      one_or (leaf_type stored modules readers m) (leaf_type written modules readers m) flat_ty
      (leaf_flat m) (child_named (codes "leaf") name list) Text refl

  key_leaf_flat : (m : ℕ) (list : Declaration) (name : List ℕ) → key_leaf stored modules readers m list name ≡ flat_key (key_leaf written modules readers m list name)
  key_leaf_flat m list name = λ i. record { name = name; ty = key_flat m list name i }

  field_flat : (m : ℕ) (is_list : Bool) (d : Declaration) → field stored modules readers m is_list d ≡ flat_field (field written modules readers m is_list d)
  field_flat m is_list d = λ i. record {
    name = name_of d;
    ty = leaf_flat m d i;
    list = is_list;
    mandatory = is_mandatory (block d);
    default = first_argument (codes "default") (block d);
  }

  field_at_flat : (m : ℕ) (keys : List (List ℕ)) (d : Declaration) → field_at stored modules readers m keys d ≡ map flat_field (field_at written modules readers m keys d)
  field_at_flat m keys d =
      let one : (is_list : Bool) → field stored modules readers m is_list d ∷ [] ≡ map flat_field (field written modules readers m is_list d ∷ []) =
      λ is_list. ap (λ (r : FieldRule). r ∷ []) (field_flat m is_list d) in
      either_way flat_field (is_keyword (codes "leaf") d)
      (if is_key_leaf keys (argument d) then [] else field stored modules readers m false d ∷ [])
      (if is_keyword (codes "leaf-list") d then field stored modules readers m true d ∷ [] else [])
      (if is_key_leaf keys (argument d) then [] else field written modules readers m false d ∷ [])
      (if is_keyword (codes "leaf-list") d then field written modules readers m true d ∷ [] else [])
      (either_way flat_field (is_key_leaf keys (argument d)) [] (field stored modules readers m false d ∷ []) [] (field written modules readers m false d ∷ []) refl (one false))
      (either_way flat_field (is_keyword (codes "leaf-list") d) (field stored modules readers m true d ∷ []) [] (field written modules readers m true d ∷ []) [] (one true) refl)

  shape_flat : (x : ModelContainer) (t s : Declaration) → shape_model stored modules readers x t s ≡ flat_shape (shape_model written modules readers x t s)
  shape_flat x t s =
      let keys = mapped (key_leaf stored modules readers x.number s) (key_leaf written modules readers x.number s) flat_key (key_leaf_flat x.number s) (shape_keys s) in
      let fields =
      joined (field_at stored modules readers x.number (shape_keys s)) (field_at written modules readers x.number (shape_keys s)) flat_field
      (field_at_flat x.number (shape_keys s)) (block s) in
      λ i. record {
        name = name_of s;
        fixed = not (is_keyword (codes "list") s);
        keys = keys i;
        fields = fields i;
        musts = flat_map (musts_at modules readers x t s) (block s);
      }

  table_flat : (x : ModelContainer) (t : Declaration) → table_of stored modules readers x t ≡ flat_table (table_of written modules readers x t)
  table_flat x t =
      let shapes = mapped (shape_model stored modules readers x t) (shape_model written modules readers x t) flat_shape (shape_flat x t) (shapes_of t) in
      λ i. record { name = name_of t; owner = x.number; shapes = shapes i }

  tables_flat : (x : ModelContainer) → tables_in stored modules readers x ≡ map flat_table (tables_in written modules readers x)
  tables_flat x =
      mapped (table_of stored modules readers x) (table_of written modules readers x) flat_table (table_flat x) (tables_of x.statement)

  pub models_flat : models_of stored modules readers ≡ flat_models (models_of written modules readers)
  models_flat =
      let tables =
      joined (tables_in stored modules readers) (tables_in written modules readers) flat_table tables_flat (containers_of modules) in
      λ i. record { modules = map (λ m. name_of m.statement) modules; tables = tables i }
