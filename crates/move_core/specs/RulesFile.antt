-- The settings that the JSON value of a rules file holds, or the first reason why it holds none.
use Rattle.std.specs.Prelude.{ℕ, ◌-◌, List, [], ◌∷◌, codes, length, Bool, true, not, ◌&&◌, ◌||◌, ◌==◌, nat_eq, if◌then◌else◌, Option, Some, None, option_and_then, Result, Ok, Err}
use Rattle.std.specs.Char.{is_ascii_alphanumeric}
use Rattle.std.specs.Int.{is_in_range}
use Rattle.std.specs.Cmp.Lexicographic.{pointwise}
use Rattle.std.specs.List.{list_all, list_any}
use Rattle.std.specs.Ordering.{eq_by_cmp}
use Rattle.host_core.specs.Names.{name_cmp}
use Rattle.serde_json.specs.Data as values
use Rattle.serde_json.specs.Find.{get_member, as_str, as_array, as_object}
use Rattle.conf_doc.specs.Reading.{json}
use Rattle.host_core.specs.Answers.{◌>>=◌, map_ok, both}
use Rattle.host_core.specs.Characters.{digit_seven, digit_zero}
use Rattle.move_core.specs.declared.errors.RulesError.{RulesError}
use Rattle.move_core.specs.declared.errors.RulesError.TheVariants.{BadJson, Bad, Memory}
use Rattle.move_core.specs.declared.errors.RulesWhy.{RulesWhy}
use Rattle.move_core.specs.declared.errors.RulesWhy.TheVariants as why
use Rattle.move_core.specs.declared.settings.CreateOnly.{CreateOnly}
use Rattle.move_core.specs.declared.settings.Required.{Required}
use Rattle.move_core.specs.declared.settings.Requiring.{Requiring}
use Rattle.move_core.specs.declared.settings.ServiceTie.{ServiceTie}
use Rattle.move_core.specs.declared.settings.Settings.{Settings}

-- ---- texts, lists and objects

-- what is there, or the reason that it isn't
abbrev pub or_bad : {A : Type 0} → RulesWhy → Option A → Result A RulesError
or_bad w None = Err (Bad w)
or_bad w (Some a) = Ok a

-- what passes a test, or the reason that it doesn't
abbrev pub or_fails : {A : Type 0} → RulesWhy → (A → Bool) → A → Result A RulesError
or_fails w test a = if test a then Ok a else Err (Bad w)

-- a text
abbrev pub text : RulesWhy → Option values.Data → Result (List ℕ) RulesError
text w o = or_bad w (option_and_then as_str o)

-- a text that isn't empty
abbrev pub name : RulesWhy → Option values.Data → Result (List ℕ) RulesError
name w o = text w o >>= or_fails w (λ s. not (length s == 0))

-- the items of a list as f reads each
abbrev pub items : {A : Type 0}
    → (values.Data → Result A RulesError) → values.Items → Result (List A) RulesError
items f values.no_items = Ok []
items f (values.item d ds) = both (λ a as'. a ∷ as') (f d) (items f ds)

-- a list, each of its items as f reads it
abbrev pub list : {A : Type 0}
    → RulesWhy → (values.Data → Result A RulesError) → Option values.Data
    → Result (List A) RulesError
list w f o = or_bad w (option_and_then as_array o) >>= items f

-- each name is one of these
abbrev pub has_only : List (List ℕ) → values.Members → Bool
has_only names values.no_members = true
has_only names (values.member k d ms) =
    list_any (λ n. pointwise nat_eq k n) names && has_only names ms

-- an object without other members
abbrev pub object : RulesWhy → List (List ℕ) → values.Data → Result values.Members RulesError
object w names d = or_bad w (as_object d) >>= or_fails w (has_only names)

-- ---- create-only fields

-- the two items of a list
abbrev pub pair : values.Items → Result CreateOnly RulesError
pair (values.item t (values.item f values.no_items)) =
    name why.CreateOnly (Some t) >>= λ table.
    name why.CreateOnly (Some f) >>= λ field.
    Ok (record { table = table; field = field })
pair other = Err (Bad why.CreateOnly)

-- a list of a table and a field
abbrev pub create_only : values.Data → Result CreateOnly RulesError
create_only d = or_bad why.CreateOnly (as_array d) >>= pair

-- ---- required values

-- one digit from 0 to 7
abbrev pub part_number : List ℕ → Option ℕ
part_number [] = None
part_number (d ∷ []) =
    if is_in_range digit_zero digit_seven d then Some (d - digit_zero) else None
part_number (d ∷ e ∷ ds) = None

-- the number of a key part
abbrev pub part : Option values.Data → Result ℕ RulesError
part o = text why.Required o >>= λ s. or_bad why.Required (part_number s)

-- a field's name, where it is there
abbrev pub optional_name : Option values.Data → Result (Option (List ℕ)) RulesError
optional_name None = Ok None
optional_name (Some d) = map_ok Some (name why.Required (Some d))

-- the members of a requiring place
abbrev pub requiring_names : List (List ℕ)
requiring_names = codes "table" ∷ codes "part" ∷ codes "field" ∷ []

-- an object of a table, a part and perhaps a field
abbrev pub requiring : values.Data → Result Requiring RulesError
requiring d =
    object why.Required requiring_names d >>= λ ms.
    name why.Required (get_member (codes "table") ms) >>= λ table.
    part (get_member (codes "part") ms) >>= λ number.
    optional_name (get_member (codes "field") ms) >>= λ field.
    Ok (record { table = table; part = number; field = field })

-- the members of a required value
abbrev pub required_names : List (List ℕ)
required_names =
    codes "table" ∷ codes "field" ∷ codes "value" ∷ codes "default" ∷ codes "requiring" ∷ []

-- an object of exactly five members
abbrev pub required : values.Data → Result Required RulesError
required d =
    object why.Required required_names d >>= λ ms.
    name why.Required (get_member (codes "table") ms) >>= λ table.
    name why.Required (get_member (codes "field") ms) >>= λ field.
    text why.Required (get_member (codes "value") ms) >>= λ value.
    text why.Required (get_member (codes "default") ms) >>= λ default.
    list why.Required requiring (get_member (codes "requiring") ms) >>= λ places.
    Ok (record {
      table = table;
      field = field;
      value = value;
      default = default;
      requiring = places;
    })

-- ---- services

-- an ASCII letter or digit, an underscore or a dash
abbrev pub is_service_byte : ℕ → Bool
is_service_byte b = is_ascii_alphanumeric b || list_any (λ c. c == b) (codes "_-")

-- a name of such bytes
abbrev pub service_name : Option values.Data → Result (List ℕ) RulesError
service_name o = name why.Services o >>= or_fails why.Services (list_all is_service_byte)

-- the name of a table
abbrev pub table_name : values.Data → Result (List ℕ) RulesError
table_name d = name why.Services (Some d)

-- an object of a name and its tables
abbrev pub service : values.Data → Result ServiceTie RulesError
service d =
    object why.Services (codes "name" ∷ codes "tables" ∷ []) d >>= λ ms.
    service_name (get_member (codes "name") ms) >>= λ own.
    list why.Services table_name (get_member (codes "tables") ms) >>= λ tables.
    Ok (record { name = own; tables = tables })

-- the service has that name
abbrev pub has_name : List ℕ → ServiceTie → Bool
has_name own s = eq_by_cmp name_cmp s.name own

-- no name occurs twice
abbrev pub names_differ : List ServiceTie → Bool
names_differ [] = true
names_differ (s ∷ ss) = not (list_any (has_name s.name) ss) && names_differ ss

-- ---- the file

-- an absent member means an empty list
abbrev pub list_or_none : {A : Type 0}
    → RulesWhy → (values.Data → Result A RulesError) → Option values.Data
    → Result (List A) RulesError
list_or_none w f None = Ok []
list_or_none w f (Some d) = list w f (Some d)

-- the members of a rules file
abbrev pub file_names : List (List ℕ)
file_names = codes "create_only" ∷ codes "required" ∷ codes "services" ∷ []

-- the services, where no name occurs twice
abbrev pub services : Option values.Data → Result (List ServiceTie) RulesError
services o = list_or_none why.Services service o >>= or_fails why.Services names_differ

-- an object of three lists, each of which may be absent
abbrev pub settings : values.Data → Result Settings RulesError
settings d =
    object why.Top file_names d >>= λ ms.
    list_or_none why.CreateOnly create_only (get_member (codes "create_only") ms) >>= λ fields.
    list_or_none why.Required required (get_member (codes "required") ms) >>= λ values.
    services (get_member (codes "services") ms) >>= λ ties.
    Ok (record { create_only = fields; required = values; services = ties })

-- the JSON value that was read, or that there is none
abbrev pub or_bad_json : Option values.Data → Result values.Data RulesError
or_bad_json None = Err BadJson
or_bad_json (Some d) = Ok d

-- the settings of the bytes of a rules file
abbrev pub rules : List ℕ → Result Settings RulesError
rules bytes = or_bad_json (json bytes) >>= settings

-- the fault that an error tells, or none for want of memory
abbrev pub rules_fault : RulesError → Option RulesError
rules_fault BadJson = Some BadJson
rules_fault (Bad w) = Some (Bad w)
rules_fault Memory = None
