-- Which settings the JSON value of a rules file says.
use Rattle.std.specs.Prelude.{◌≡◌, ◌≢◌, ◌⊎◌, ℕ, ◌<◌, List, [], ◌∷◌, codes, true, None, decimal, All}
use Rattle.std.specs.Char.{is_ascii_alphanumeric}
use Rattle.std.specs.List.{AllPairs, Contains}
use Rattle.std.specs.Option.{MatchOption}
use Rattle.serde_json.specs.Data.{Data}
use Rattle.serde_json.specs.Find.{get}
use Rattle.move_core.specs.declared.settings.CreateOnly.{CreateOnly}
use Rattle.move_core.specs.declared.settings.Required.{Required}
use Rattle.move_core.specs.declared.settings.Requiring.{Requiring}
use Rattle.move_core.specs.declared.settings.ServiceTie.{ServiceTie}
use Rattle.move_core.specs.declared.settings.Settings.{Settings}
use Rattle.gcu_engine.specs.JsonValues.{HasList, HasMember, IsList, IsName, IsObject, IsText}

-- a list of a table and a field
abbrev pub IsCreateOnly : Data → CreateOnly → Type 0
IsCreateOnly d x = IsList IsName d (x.table ∷ x.field ∷ [])

-- the number of a part of a key: one digit from 0 to 7
abbrev pub IsPart : Data → ℕ → Type 0
IsPart d n = IsText d (decimal n) × (n < 8)

-- an object of a table, a part and perhaps a field
pub record IsRequiring (d : Data) (x : Requiring) : Type 0 where
  pub names : IsObject (codes "table" ∷ codes "part" ∷ codes "field" ∷ []) d
  pub table : HasMember IsName (codes "table") d x.table
  pub part : HasMember IsPart (codes "part") d x.part
  pub field : MatchOption x.field
      (get (codes "field") d ≡ None) (HasMember IsName (codes "field") d)

-- an object of five members
pub record IsRequired (d : Data) (x : Required) : Type 0 where
  pub names : IsObject (codes "table" ∷ codes "field" ∷ codes "value" ∷ codes "default"
      ∷ codes "requiring" ∷ []) d
  pub table : HasMember IsName (codes "table") d x.table
  pub field : HasMember IsName (codes "field") d x.field
  pub value : HasMember IsText (codes "value") d x.value
  pub default : HasMember IsText (codes "default") d x.default
  pub requiring : HasMember (IsList IsRequiring) (codes "requiring") d x.requiring

-- a name of ASCII letters, digits, `_` and `-`
abbrev pub IsServiceName : Data → List ℕ → Type 0
IsServiceName d name =
    IsName d name × All (λ c. (is_ascii_alphanumeric c ≡ true) ⊎ Contains (codes "_-") c) name

-- an object of a name and its tables
pub record IsService (d : Data) (x : ServiceTie) : Type 0 where
  pub names : IsObject (codes "name" ∷ codes "tables" ∷ []) d
  pub name : HasMember IsServiceName (codes "name") d x.name
  pub tables : HasMember (IsList IsName) (codes "tables") d x.tables

-- an object of three lists; no two services have one name
pub record IsSettings (d : Data) (x : Settings) : Type 0 where
  pub names : IsObject (codes "create_only" ∷ codes "required" ∷ codes "services" ∷ []) d
  pub create_only : HasList IsCreateOnly (codes "create_only") d x.create_only
  pub required : HasList IsRequired (codes "required") d x.required
  pub services : HasList IsService (codes "services") d x.services
  pub differ : AllPairs (λ s t. s.name ≢ t.name) x.services
