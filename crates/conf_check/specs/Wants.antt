-- The wants of a configuration: each text that a leafref accepts, by its place, and what it wants.
use Rattle.std.specs.Prelude.{◌≡◌, ◌⊎◌, ◌<◌, ℕ, List, Option, Some, None, option_map, slice_get, IsSomeAnd}
use Rattle.conf_doc.specs.declared.configuration.Config.{Config}
use Rattle.conf_doc.specs.declared.configuration.Entry.{Entry}
use Rattle.yang_model.specs.ModelSets.{ModelSet}
use Rattle.yang_model.specs.declared.shapes.Shape.{Shape}
use Rattle.yang_types.specs.DataType.{DataType}
use Rattle.yang_types.specs.declared.types.Target.{Target}
use Rattle.conf_check.specs.Acceptance.{IsWanted}
use Rattle.conf_check.specs.declared.want_iter.Want.{Want as LentWant}
use Rattle.conf_check.specs.declared.want_iter.WantAt.{WantAt}
use Rattle.conf_check.specs.declared.want_iter.WantPlace.{WantPlace}
use Rattle.conf_check.specs.Rows.{Row, row_at, HasShape, IsEntryAt, typed_text}

-- a key leaf of a shape and a text that it is to have
pub record Want : Type 0 where
  pub target : Target
  pub text : List ℕ

-- a lent want without its borrows
abbrev pub want_of : LentWant → Want
want_of w =
    record {
      target = record { table = w.table.now; shape = w.shape; part = w.part };
      text = w.text.now;
    }

-- the text has that want by its type
abbrev pub IsWantedText : ModelSet → Config → Option (DataType × List ℕ) → Want → Type 0
IsWantedText models config typed want =
    IsSomeAnd typed (λ t. (t.1 ≡ want.text) × IsWanted models config t.0 t.1 want.target)

-- the text at that place has that want
pub record IsWantAt (models : ModelSet) (config : Config) (place : WantPlace)
    (want : Want) : Type 0 where
  pub row : Row
  pub at : row_at models config place.table place.key ≡ Some row
  pub shape : Shape
  pub shaped : HasShape models row shape
  pub wanted : IsWantedText models config (typed_text shape row place.field place.item) want

-- the name of the field at a position, None where no position is given
abbrev pub field_name : Entry → Option ℕ → Option (Option (List ℕ))
field_name fields None = Some None
field_name fields (Some i) = option_map (λ f. Some f.0) (slice_get fields i)

-- the place by its names, as a want is handed out
pub record IsNamed (config : Config) (place : WantPlace) (at : WantAt) : Type 0 where
  pub entry : IsEntryAt config at.table.now at.key.now place.table place.key
  pub field : field_name entry.fields place.field ≡ Some (option_map (λ s. s.now) at.field)
  pub item : at.item ≡ place.item

-- parts of the key come before fields
abbrev pub IsFieldBefore : Option ℕ → Option ℕ → Type 0
IsFieldBefore None None = ⊥
IsFieldBefore None (Some g) = Unit {0}
IsFieldBefore (Some f) None = ⊥
IsFieldBefore (Some f) (Some g) = f < g

-- tables, then keys, then fields, then items
abbrev pub IsPlaceBefore : WantPlace → WantPlace → Type 0
IsPlaceBefore a b =
    (a.table < b.table)
    ⊎ ((a.table ≡ b.table)
    × ((a.key < b.key)
    ⊎ ((a.key ≡ b.key)
    × (IsFieldBefore a.field b.field
    ⊎ ((a.field ≡ b.field) × (a.item < b.item))))))
