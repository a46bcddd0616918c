-- The models of tables as values, and what is read in them by name.
use Rattle.std.specs.Prelude.{ℕ, List, [], Option, option_map, option_and_then, slice_get}
use Rattle.std.specs.Option.{option_map_or}
use Rattle.std.specs.List.{find}
use Rattle.std.specs.Str.{bytes_eq}
use Rattle.yang_types.specs.declared.types.Ty.{Ty}
use Rattle.yang_model.specs.declared.shapes.Shape.{Shape}

-- a table: its name, the place of its module among the modules, and its shapes in the order of the text
pub record TableModel : Type 0 where
  pub name : List ℕ
  pub owner : ℕ
  pub shapes : List Shape

-- the modules in the order of the files, and their tables in the order of the text
pub record ModelSet : Type 0 where
  pub modules : List (List ℕ)
  pub tables : List TableModel

-- the model of a table
abbrev pub table_named : List ℕ → ModelSet → Option TableModel
table_named name models = find (λ t. bytes_eq name t.name) models.tables

-- the place of its module
abbrev pub owner_of : List ℕ → ModelSet → Option ℕ
owner_of name models = option_map (λ t. t.owner) (table_named name models)

-- a shape of a table, by its place among the shapes of the table
abbrev pub shape_of : List ℕ → ℕ → ModelSet → Option Shape
shape_of name place models =
    option_and_then (λ t. slice_get t.shapes place) (table_named name models)

-- the type of a field
abbrev pub field_type : List ℕ → Shape → Option Ty
field_type name shape = option_map (λ f. f.ty) (find (λ f. bytes_eq name f.name) shape.fields)

-- the type of a field of a shape of a table
abbrev pub type_of_field : List ℕ → ℕ → List ℕ → ModelSet → Option Ty
type_of_field table place field models =
    option_and_then (field_type field) (shape_of table place models)

-- the shapes of a table, none where it has no model
abbrev pub shapes_of : List ℕ → ModelSet → List Shape
shapes_of name models = option_map_or (λ t. t.shapes) (table_named name models) []
