-- Tables that keep a configuration from being the goal of a plan: those without a model that would change,
-- and those with a model that would have no keys.
use Rattle.std.specs.Prelude.{◌≡◌, ◌≢◌, ℕ, List, [], Some}
use Rattle.std.specs.declared.cmp.Ordering.TheVariants.{Less}
use Rattle.host_core.specs.Names.{name_cmp}
use Rattle.conf_doc.specs.Pairs.{find}
use Rattle.conf_doc.specs.declared.configuration.Config.{Config}
use Rattle.move_core.specs.Contexts.{IsModelled}
use Rattle.move_core.specs.declared.contexts.Ctx.{Ctx}

-- it is the first by name: those before it are as P says
abbrev pub IsFirstByName : (List ℕ → Type 0) → List ℕ → Type 0
IsFirstByName P t = (u : List ℕ) → name_cmp u t ≡ Less → P u

-- ---- tables without a model

-- the table has a model, or is the same in both
abbrev pub AgreeAt : Ctx → Config → Config → List ℕ → Type 0
AgreeAt ctx a b t = ¬ IsModelled ctx.models t → find t a ≡ find t b

-- the table has no model and isn't the same in both
abbrev pub DifferAt : Ctx → Config → Config → List ℕ → Type 0
DifferAt ctx a b t = ¬ IsModelled ctx.models t × (find t a ≢ find t b)

-- the first such table
abbrev pub IsFirstDifference : Ctx → Config → Config → List ℕ → Type 0
IsFirstDifference ctx a b t = DifferAt ctx a b t × IsFirstByName (AgreeAt ctx a b) t

-- ---- tables without keys

-- the table has no model, has keys, or isn't there
abbrev pub HasKeysAt : Ctx → Config → List ℕ → Type 0
HasKeysAt ctx c t = IsModelled ctx.models t → find t c ≢ Some []

-- the table has a model and no keys
abbrev pub IsEmptyAt : Ctx → Config → List ℕ → Type 0
IsEmptyAt ctx c t = IsModelled ctx.models t × (find t c ≡ Some [])

-- no table with a model is without keys
abbrev pub HasNoEmptyTable : Ctx → Config → Type 0
HasNoEmptyTable ctx c = (t : List ℕ) → HasKeysAt ctx c t

-- the first such table
abbrev pub IsFirstEmpty : Ctx → Config → List ℕ → Type 0
IsFirstEmpty ctx c t = IsEmptyAt ctx c t × IsFirstByName (HasKeysAt ctx c) t
