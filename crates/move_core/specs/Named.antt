-- No name in the settings of a rules file is empty.
use Rattle.std.specs.Prelude.{ℕ, ◌<◌, List, length, All, IfSome}
use Rattle.move_core.specs.declared.settings.CreateOnly.{CreateOnly}
use Rattle.move_core.specs.declared.settings.Required.{Required}
use Rattle.move_core.specs.declared.settings.Requiring.{Requiring}
use Rattle.move_core.specs.declared.settings.ServiceTie.{ServiceTie}
use Rattle.move_core.specs.declared.settings.Settings.{Settings}

-- it isn't empty
abbrev pub IsName : List ℕ → Type 0
IsName name = 0 < length name

-- a table and a field
abbrev pub HasPairNames : CreateOnly → Type 0
HasPairNames c = IsName c.table × IsName c.field

-- a table, and a field where one is given
abbrev pub HasPlaceNames : Requiring → Type 0
HasPlaceNames r = IsName r.table × IfSome r.field IsName

-- a table, a field, and those of its requiring places
abbrev pub HasRequiredNames : Required → Type 0
HasRequiredNames r = IsName r.table × IsName r.field × All HasPlaceNames r.requiring

-- its own, and its tables
abbrev pub HasServiceNames : ServiceTie → Type 0
HasServiceNames t = IsName t.name × All IsName t.tables

-- no name of a table, a field or a service is empty
abbrev pub HasNames : Settings → Type 0
HasNames s =
    All HasPairNames s.create_only × All HasRequiredNames s.required
    × All HasServiceNames s.services
