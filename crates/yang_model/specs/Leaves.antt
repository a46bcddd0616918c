-- The key leaves and the fields of lists and fixed containers, as their statements give them
-- (RFC 7950, sections 7.6 to 7.8): with the types that are written, or with those that are stored.
use Rattle.std.specs.Prelude.{ℕ, Bool, true, false, List, [], ◌∷◌, codes, unwrap_or, if◌then◌else◌}
use Rattle.std.specs.Option.{option_map_or}
use Rattle.yang_text.specs.Declarations.{Declaration, argument, block}
use Rattle.yang_types.specs.DataType.{DataType}
use Rattle.yang_types.specs.Flattening.{flat}
use Rattle.yang_types.specs.declared.types.Ty.{Ty}
use Rattle.yang_types.specs.declared.types.Ty.TheVariants.{Text}
use Rattle.yang_scope.specs.Modules.{Module}
use Rattle.yang_scope.specs.Paths.{child_named}
use Rattle.yang_scope.specs.Statements.{is_keyword, first_child}
use Rattle.yang_values.specs.WrittenTypes.{written_type}
use Rattle.yang_faults.specs.Fields.{first_argument, key_names, is_key_leaf, is_mandatory}
use Rattle.yang_model.specs.Readers.{Readers}
use Rattle.yang_model.specs.ShapeCodes.{ty_of}
use Rattle.yang_model.specs.declared.shapes.FieldRule.{FieldRule}
use Rattle.yang_model.specs.declared.shapes.KeyLeaf.{KeyLeaf}

-- the name that a statement gives
abbrev pub name_of : Declaration → List ℕ
name_of d = unwrap_or (argument d) []

-- the names of the key leaves; a fixed container has none
abbrev pub shape_keys : Declaration → List (List ℕ)
shape_keys s = if is_keyword (codes "list") s then key_names (block s) else []

-- the type of a type statement of a module
abbrev pub TypeOf : Type 0
TypeOf = List Module → Readers → ℕ → Declaration → DataType

-- as it is written
abbrev pub written : TypeOf
written modules readers m d = written_type readers.tests.is_pattern modules m d

-- as it is stored
abbrev pub stored : TypeOf
stored modules readers m d = flat (written modules readers m d)

module _ (type_of : TypeOf) where
  -- the type of a leaf or a leaf-list
  abbrev pub leaf_type : List Module → Readers → ℕ → Declaration → Ty
  leaf_type modules readers m d =
      option_map_or (λ t. ty_of (type_of modules readers m t)) (first_child (codes "type") d) Text

  -- the type of a leaf of a list by its name
  abbrev pub key_type : List Module → Readers → ℕ → Declaration → List ℕ → Ty
  key_type modules readers m list name =
      option_map_or (leaf_type modules readers m) (child_named (codes "leaf") name list) Text

  -- the leaf of a list that its key names
  abbrev pub key_leaf : List Module → Readers → ℕ → Declaration → List ℕ → KeyLeaf
  key_leaf modules readers m list name = record {
    name = name;
    ty = key_type modules readers m list name;
  }

  -- a leaf or a leaf-list
  abbrev pub field : List Module → Readers → ℕ → Bool → Declaration → FieldRule
  field modules readers m is_list d = record {
    name = name_of d;
    ty = leaf_type modules readers m d;
    list = is_list;
    mandatory = is_mandatory (block d);
    default = first_argument (codes "default") (block d);
  }

  -- a statement of a list or a fixed container, where it is a field; key leaves are none
  abbrev pub field_at : List Module → Readers → ℕ → List (List ℕ) → Declaration → List FieldRule
  field_at modules readers m keys d =
      if is_keyword (codes "leaf") d
      then (if is_key_leaf keys (argument d) then [] else field modules readers m false d ∷ [])
      else if is_keyword (codes "leaf-list") d then field modules readers m true d ∷ []
      else []
