-- Where a violation stands, by names: at an entry or at a field of it.
use Rattle.std.specs.Prelude.{◌≡◌, ℕ, List, [], ◌∷◌, ◌++◌, ◌==◌, if◌then◌else◌, Option, Some, None, option_map, slice_get}
use Rattle.std.specs.Option.{option_to_list}
use Rattle.conf_doc.specs.Pointer.{IsPointer}
use Rattle.conf_doc.specs.declared.configuration.Config.{Config}
use Rattle.yang_model.specs.ModelSets.{ModelSet}
use Rattle.conf_check.specs.Rows.{Row, row_at, HasShape, IsShapeOf}
use Rattle.conf_check.specs.Validity.{Breach}
use Rattle.conf_check.specs.declared.violations.RuleName.{RuleName}
use Rattle.conf_check.specs.declared.violations.RuleName.TheVariants.{KeyShape, KeyReference, UnknownField, WrongKind, BadValue, DuplicateItem, MissingField, Must}
use Rattle.yang_model.specs.declared.shapes.Shape.{Shape}

-- the rule of a number
abbrev pub rule_from : ℕ → Option RuleName
rule_from n =
    if n == 1 then Some KeyShape
    else if n == 2 then Some KeyReference
    else if n == 3 then Some UnknownField
    else if n == 4 then Some WrongKind
    else if n == 5 then Some BadValue
    else if n == 6 then Some DuplicateItem
    else if n == 7 then Some MissingField
    else if n == 8 then Some Must
    else None

-- the name of a field of the entry
abbrev pub field_name : Row → ℕ → List (List ℕ)
field_name row n = option_to_list (option_map (λ f. f.0) (slice_get row.fields n))

-- the name of a field of the shape
abbrev pub rule_name : Shape → ℕ → List (List ℕ)
rule_name shape n = option_to_list (option_map (λ f. f.name) (slice_get shape.fields n))

-- the name of the field at which a rule is broken; a rule on the key or on the whole entry has none
abbrev pub IsFieldOf : ModelSet → Row → RuleName → ℕ → List (List ℕ) → Type 0
IsFieldOf models row KeyShape n names = names ≡ []
IsFieldOf models row KeyReference n names = names ≡ []
IsFieldOf models row UnknownField n names = names ≡ field_name row n
IsFieldOf models row WrongKind n names = names ≡ field_name row n
IsFieldOf models row BadValue n names = names ≡ field_name row n
IsFieldOf models row DuplicateItem n names = names ≡ field_name row n
IsFieldOf models row MissingField n names =
    (shape : Shape) → HasShape models row shape → names ≡ rule_name shape n
IsFieldOf models row Must n names = names ≡ []

-- the text is the pointer to where the rule is broken
pub record IsPlaceOf (models : ModelSet) (config : Config) (b : Breach) (text : List ℕ)
    : Type 0 where
  pub row : Row
  pub at : row_at models config b.table b.key ≡ Some row
  pub field : List (List ℕ)
  pub named : IsFieldOf models row b.rule b.field field
  pub pointer : IsPointer text (row.table ∷ row.key ∷ field)

-- the name of that field is put at the end
abbrev pub AddsField : ModelSet → Row → RuleName → ℕ → List (List ℕ) → List (List ℕ) → Type 0
AddsField models row rule n old new =
    (names : List (List ℕ)) × (new ≡ old ++ names) × IsFieldOf models row rule n names

-- the names of the place are put at the end: of the table, of the key, and of the field where there is one
pub record AddsNames (models : ModelSet) (config : Config) (b : Breach) (old new : List (List ℕ))
    : Type 0 where
  pub row : Row
  pub at : row_at models config b.table b.key ≡ Some row
  pub field : List (List ℕ)
  pub named : IsFieldOf models row b.rule b.field field
  pub follows : new ≡ old ++ row.table ∷ row.key ∷ field

-- the shape of an entry, or None where it belongs to none
abbrev pub IsTheShape : ModelSet → List ℕ → List ℕ → Option Shape → Type 0
IsTheShape models table key answer =
    (shape : Shape) → IsShapeOf models table key shape → answer ≡ Some shape
