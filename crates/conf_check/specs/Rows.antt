-- The entries of tables that have models: their shapes, and the texts that they hold.
use Rattle.std.specs.Prelude.{◌≡◌, ◌↔◌, ℕ, Bool, true, false, List, [], ◌∷◌, Option, Some, None, option_map, option_and_then, slice_get, is_some, IsSomeAnd, MatchOption, if◌then◌else◌}
use Rattle.std.specs.List.{find, list_any}
use Rattle.std.specs.Str.{bytes_eq}
use Rattle.conf_doc.specs.declared.configuration.Config.{Config}
use Rattle.conf_doc.specs.declared.configuration.Entry.{Entry}
use Rattle.conf_doc.specs.declared.configuration.Table.{Table}
use Rattle.conf_doc.specs.declared.configuration.Value.{Value}
use Rattle.conf_doc.specs.declared.configuration.Value.TheVariants.{Text, List as Listed}
use Rattle.key_split.specs.Key.{key_parts}
use Rattle.yang_model.specs.Belongs.{Belongs}
use Rattle.yang_model.specs.ModelSets.{ModelSet, table_named, shapes_of}
use Rattle.yang_model.specs.declared.shapes.FieldRule.{FieldRule}
use Rattle.yang_model.specs.declared.shapes.Shape.{Shape}
use Rattle.yang_types.specs.DataType.{DataType}
use Rattle.yang_types.specs.DataTypes.{data_type}

-- an entry, with the name of its table and its key
pub record Row : Type 0 where
  pub table : List ℕ
  pub key : List ℕ
  pub fields : Entry

-- made of its parts
abbrev pub row_of : List ℕ → List ℕ → Entry → Row
row_of table key fields = record { table = table; key = key; fields = fields }

-- a table that has a model, with its name
abbrev pub if_modelled : ModelSet → List ℕ × Table → Option (List ℕ × Table)
if_modelled models p = if is_some (table_named p.0 models) then Some p else None

-- the entry at a place of a table that has a model; places count from 0 in the order of names
abbrev pub row_at : ModelSet → Config → ℕ → ℕ → Option Row
row_at models config table key =
    option_and_then
    (λ t. option_map (λ e. record { table = t.0; key = e.0; fields = e.1 }) (slice_get t.1 key))
    (option_and_then (if_modelled models) (slice_get config table))

-- the entry of that key of the table of that name stands at those positions
pub record IsEntryAt (config : Config) (table key : List ℕ) (t k : ℕ) : Type 0 where
  pub entries : Table
  pub at : slice_get config t ≡ Some (table, entries)
  pub fields : Entry
  pub at_key : slice_get entries k ≡ Some (key, fields)

-- the answer is where that entry stands, None where it isn't there
abbrev pub IsPlaceOfEntry : Config → List ℕ → List ℕ → Option (ℕ × ℕ) → Type 0
IsPlaceOfEntry config table key answer =
    MatchOption answer
    ((t k : ℕ) → ¬ IsEntryAt config table key t k)
    (λ at. (t k : ℕ) → IsEntryAt config table key t k ↔ (t ≡ at.0) × (k ≡ at.1))

-- the table at a place has a model
abbrev pub IsModelledAt : ModelSet → Config → ℕ → Type 0
IsModelledAt models config table =
    IsSomeAnd (slice_get config table) (λ p. is_some (table_named p.0 models) ≡ true)

-- the entry belongs to no shape of its table
abbrev pub HasNoShape : ModelSet → Row → Type 0
HasNoShape models row = Belongs (shapes_of row.table models) row.key None

-- an entry of that key belongs to that shape of its table
pub record IsShapeOf (models : ModelSet) (table key : List ℕ) (shape : Shape) : Type 0 where
  pub place : ℕ
  pub belongs : Belongs (shapes_of table models) key (Some place)
  pub is : slice_get (shapes_of table models) place ≡ Some shape

-- the entry belongs to that shape
abbrev pub HasShape : ModelSet → Row → Shape → Type 0
HasShape models row shape = IsShapeOf models row.table row.key shape

-- a key leaf has that name
abbrev pub is_key_leaf : List ℕ → Shape → Bool
is_key_leaf name shape = list_any (λ k. bytes_eq name k.name) shape.keys

-- the leaf or leaf-list of a name that is no key leaf
abbrev pub rule_of : List ℕ → Shape → Option FieldRule
rule_of name shape =
    if is_key_leaf name shape then None
    else find (λ f. bytes_eq name f.name) shape.fields

-- the text of a leaf, or the texts of a leaf-list; a value of the other kind has none
abbrev pub texts_by_kind : Bool → Value → Option (List (List ℕ))
texts_by_kind false (Text t) = Some (t ∷ [])
texts_by_kind true (Listed ts) = Some ts
texts_by_kind false (Listed ts) = None
texts_by_kind true (Text t) = None

-- the texts of a field with their type, where the shape has the field and the value is of its kind
abbrev pub typed_texts : FieldRule → Value → Option (DataType × List (List ℕ))
typed_texts rule value = option_map (λ ts. (data_type rule.ty, ts)) (texts_by_kind rule.list value)

-- of a field with its name
abbrev pub texts_of : Shape → List ℕ × Value → Option (DataType × List (List ℕ))
texts_of shape field = option_and_then (λ rule. typed_texts rule field.1) (rule_of field.0 shape)

-- a part of the key with the type of its key leaf
abbrev pub typed_part : Shape → List ℕ → ℕ → Option (DataType × List ℕ)
typed_part shape key i =
    option_and_then (λ leaf. option_map (λ s. (data_type leaf.ty, s)) (slice_get (key_parts key) i))
    (slice_get shape.keys i)

-- an item of a field with its type; a leaf has one item
abbrev pub typed_item : Shape → Entry → ℕ → ℕ → Option (DataType × List ℕ)
typed_item shape fields field i =
    option_and_then (λ ts. option_map (λ s. (ts.0, s)) (slice_get ts.1 i))
    (option_and_then (texts_of shape) (slice_get fields field))

-- the text at a place of an entry with its type: a part of the key, or an item of a field
abbrev pub typed_text : Shape → Row → Option ℕ → ℕ → Option (DataType × List ℕ)
typed_text shape row None i = typed_part shape row.key i
typed_text shape row (Some field) i = typed_item shape row.fields field i
